-- The table that the lines of a text give, and why a text is refused.
use Rattle.std.proofs.Common.{◌≡◌, ℕ, refl, sym, subst}
use Rattle.std.specs.Prelude.{MatchOption}
use Rattle.uca_io.specs.LineFold.{with_text}
use Rattle.uca_io.specs.LineReader.{FailsFirst, GivesSome, IsFaulty, StopsBy}
use Rattle.uca_io.specs.Reader.{ReaderState}
use Rattle.uca_io.specs.declared.line_reader.LineCause.TheVariants as lines
use Rattle.uca_io.proofs.MapLemmas.{FailsFirst-part, IsFaulty-part}
use Rattle.uca_model.specs.TableText.{Cause, bad_code_point, bad_directive, bad_element, bad_range, key_too_long, line_too_long, no_element, no_lines, no_semicolon, read, repeated, table_fold, table_of_text, table_part, too_large, too_many_elements}
use Rattle.uca_allkeys.specs.declared.faults.ReadCause.{ReadCause}
use Rattle.uca_allkeys.specs.declared.faults.ReadCause.TheVariants.{LineTooLong, BadDirective, BadCodePoint, KeyTooLong, NoSemicolon, BadElement, NoElement, TooManyElements, Repeated, BadRange, TooLarge, Read, OutOfMemory}
use Rattle.uca_allkeys.specs.declared.faults.ReadFault.{ReadFault}
use Rattle.uca_allkeys.specs.Faults.{read_cause, IsOfText}
use Rattle.uca_allkeys.specs.Reading.{IsRefused, RefusedBy}

faulty : (old new : ReaderState) (line : ℕ) (cause : Cause) → IsFaulty (with_text table_fold no_lines) old new line cause → IsFaulty table_of_text old new line cause
faulty old new line cause is = IsFaulty-part table_part (with_text table_fold no_lines) table_of_text old new line cause (λ end bytes. refl) is

at_reported : (old new : ReaderState) (n line : ℕ) (cause : Cause) → line ≡ n → IsFaulty (with_text table_fold no_lines) old new n cause → IsFaulty table_of_text old new line cause
at_reported old new n line cause at is = subst (λ (m : ℕ). IsFaulty table_of_text old new m cause) (sym at) (faulty old new n cause is)

-- a cause of the text, at the line that is reported for it
refused_by : (cause : ReadCause) (old new : ReaderState) (n line : ℕ) → MatchOption (read_cause cause) (line ≡ 0) (λ _. line ≡ n) → IsOfText cause → GivesSome old new → MatchOption (read_cause cause) (Unit {0}) (IsFaulty (with_text table_fold no_lines) old new n) → RefusedBy cause old new line
refused_by LineTooLong old new n line at mine some says = at_reported old new n line line_too_long at says
refused_by BadDirective old new n line at mine some says = at_reported old new n line bad_directive at says
refused_by BadCodePoint old new n line at mine some says = at_reported old new n line bad_code_point at says
refused_by KeyTooLong old new n line at mine some says = at_reported old new n line key_too_long at says
refused_by NoSemicolon old new n line at mine some says = at_reported old new n line no_semicolon at says
refused_by BadElement old new n line at mine some says = at_reported old new n line bad_element at says
refused_by NoElement old new n line at mine some says = at_reported old new n line no_element at says
refused_by TooManyElements old new n line at mine some says = at_reported old new n line too_many_elements at says
refused_by Repeated old new n line at mine some says = at_reported old new n line repeated at says
refused_by BadRange old new n line at mine some says = at_reported old new n line bad_range at says
refused_by TooLarge old new n line at mine some says = at_reported old new n line too_large at says
refused_by Read old new n line at mine some says = absurd mine
refused_by OutOfMemory old new n line at mine some says = record { some = some; nowhere = at }

-- a cause with its line, reported as a fault
reported : (fault : ReadFault) (cause : ReadCause) (old new : ReaderState) → fault.cause ≡ cause → RefusedBy cause old new fault.line → IsRefused old new fault
reported fault cause old new is refused = subst (λ (k : ReadCause). RefusedBy k old new fault.line) (sym is) refused

pub too_long : (fault : ReadFault) (n : ℕ) (old new : ReaderState) → fault.cause ≡ LineTooLong → fault.line ≡ n → StopsBy table_fold read_cause IsOfText no_lines old new n lines.LineTooLong → IsRefused old new fault
too_long fault n old new is at stops = reported fault LineTooLong old new is (at_reported old new n fault.line line_too_long at stops)

pub over_limit : (fault : ReadFault) (n : ℕ) (old new : ReaderState) → fault.cause ≡ TooLarge → fault.line ≡ n → StopsBy table_fold read_cause IsOfText no_lines old new n lines.TooLarge → IsRefused old new fault
over_limit fault n old new is at stops = reported fault TooLarge old new is (at_reported old new n fault.line too_large at stops)

pub not_read : (fault : ReadFault) (n : ℕ) (old new : ReaderState) → fault.cause ≡ Read → fault.line ≡ n → StopsBy table_fold read_cause IsOfText no_lines old new n lines.Read → IsRefused old new fault
not_read fault n old new is at stops =
    reported fault Read old new is (subst (λ (m : ℕ). FailsFirst table_of_text old new m read) (sym at) (FailsFirst-part table_part (with_text table_fold no_lines) table_of_text old new n read (λ end bytes. refl) stops))

pub line_refused : (fault : ReadFault) (cause : ReadCause) (n : ℕ) (old new : ReaderState) → fault.cause ≡ cause → MatchOption (read_cause cause) (fault.line ≡ 0) (λ _. fault.line ≡ n) → StopsBy table_fold read_cause IsOfText no_lines old new n (lines.Refused cause) → IsRefused old new fault
line_refused fault cause n old new is at stops = reported fault cause old new is (refused_by cause old new n fault.line at stops.0 stops.1.0 stops.1.1)
