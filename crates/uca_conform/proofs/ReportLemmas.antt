-- The report of a file's lines, and why a file is refused.
use Rattle.std.proofs.Common.{◌≡◌, ℕ, [], subst}
use Rattle.uca_io.specs.LineFold.{with_text}
use Rattle.uca_io.specs.LineReader.{GivesText, IsFaulty, StopsBy}
use Rattle.uca_io.specs.Reader.{ReaderState}
use Rattle.uca_io.specs.declared.line_reader.LineCause.{LineCause}
use Rattle.uca_io.specs.declared.line_reader.LineCause.TheVariants as lines
use Rattle.uca_io.proofs.MapLemmas.{FailsFirst-part, GivesText-part, IsFaulty-part}
use Rattle.uca_weights.specs.declared.settings.Settings.{Settings}
use Rattle.uca_model.specs.Table.{ElementTable}
use Rattle.uca_model.specs.TestFile.{TestCause, read, report_of}
use Rattle.uca_conform.specs.Comparing.{Comparing, comparing, comparing_fold}
use Rattle.uca_conform.specs.Conforming.{report_in, GivesReport, RefusedBy}
use Rattle.uca_conform.specs.TestReading.{fault_of, test_cause, IsOfFile}
use Rattle.uca_conform.specs.declared.conforming.ConformCause.{ConformCause}
use Rattle.uca_conform.specs.declared.conforming.ConformCause.TheVariants.{LineTooLong, BadLine, TooLarge, Read}
use Rattle.uca_conform.specs.declared.conforming.Conformance.{Conformance}
use Rattle.uca_conform.proofs.ComparingLemmas.{report_of-compared, report_part}

pub gives_report : (t : ElementTable) (s : Settings) (old new : ReaderState) (c : Comparing) (r : Conformance) → GivesText (with_text comparing_fold (comparing t s [])) old new c → c.sum.report ≡ report_in r → GivesReport t s old new r
gives_report t s old new c r gives is =
    subst (GivesText (report_of t s) old new) is (GivesText-part report_part (with_text comparing_fold (comparing t s [])) (report_of t s) old new c (report_of-compared t s) gives)

faulty : (t : ElementTable) (s : Settings) (old new : ReaderState) (line : ℕ) (cause : TestCause) → IsFaulty (with_text comparing_fold (comparing t s [])) old new line cause → IsFaulty (report_of t s) old new line cause
faulty t s old new line cause is = IsFaulty-part report_part (with_text comparing_fold (comparing t s [])) (report_of t s) old new line cause (report_of-compared t s) is

-- a cause of the file
refused : (t : ElementTable) (s : Settings) (cause : ConformCause) (old new : ReaderState) (line : ℕ) → IsOfFile cause → IsFaulty (with_text comparing_fold (comparing t s [])) old new line (test_cause cause) → RefusedBy t s cause old new line
refused t s LineTooLong old new line mine is = faulty t s old new line (test_cause LineTooLong) is
refused t s BadLine old new line mine is = faulty t s old new line (test_cause BadLine) is
refused t s TooLarge old new line mine is = faulty t s old new line (test_cause TooLarge) is
refused t s Read old new line mine is = absurd mine

-- a line that is too long, or a file that is too large
pub over_limit : (t : ElementTable) (s : Settings) (old new : ReaderState) (line : ℕ) (k limit : LineCause ConformCause) (cause : TestCause) → k ≡ limit → (StopsBy comparing_fold fault_of IsOfFile (comparing t s []) old new line limit → IsFaulty (with_text comparing_fold (comparing t s [])) old new line cause)
    → StopsBy comparing_fold fault_of IsOfFile (comparing t s []) old new line k → IsFaulty (report_of t s) old new line cause
over_limit t s old new line k limit cause is says stops = faulty t s old new line cause (says (subst (λ (c : LineCause ConformCause). StopsBy comparing_fold fault_of IsOfFile (comparing t s []) old new line c) is stops))

-- a read that failed
pub not_read : (t : ElementTable) (s : Settings) (old new : ReaderState) (line : ℕ) (k : LineCause ConformCause) → k ≡ lines.Read → StopsBy comparing_fold fault_of IsOfFile (comparing t s []) old new line k → RefusedBy t s Read old new line
not_read t s old new line k is stops =
    FailsFirst-part report_part (with_text comparing_fold (comparing t s [])) (report_of t s) old new line read (report_of-compared t s) (subst (λ (c : LineCause ConformCause). StopsBy comparing_fold fault_of IsOfFile (comparing t s []) old new line c) is stops)

-- a line that the sink refused
pub line_refused : (t : ElementTable) (s : Settings) (old new : ReaderState) (line : ℕ) (k : LineCause ConformCause) (cause : ConformCause) → k ≡ lines.Refused cause → StopsBy comparing_fold fault_of IsOfFile (comparing t s []) old new line k → RefusedBy t s cause old new line
line_refused t s old new line k cause is stops =
    let here : StopsBy comparing_fold fault_of IsOfFile (comparing t s []) old new line (lines.Refused cause) = subst (λ (c : LineCause ConformCause). StopsBy comparing_fold fault_of IsOfFile (comparing t s []) old new line c) is stops in
    refused t s cause old new line here.0 here.1.1
