-- What a reader of a test file returns.
use Rattle.std.specs.Prelude.{ℕ}
use Rattle.uca_io.specs.LineReader.{FailsFirst, GivesText, IsFaulty}
use Rattle.uca_io.specs.Reader.{ReaderState}
use Rattle.uca_weights.specs.declared.settings.Settings.{Settings}
use Rattle.uca_model.specs.Table.{ElementTable}
use Rattle.uca_model.specs.TestFile.{Report, line_too_long, bad_line, too_large, read, report_of}
use Rattle.uca_conform.specs.declared.conforming.Conformance.{Conformance}
use Rattle.uca_conform.specs.declared.conforming.ConformCause.{ConformCause}
use Rattle.uca_conform.specs.declared.conforming.ConformCause.TheVariants.{LineTooLong, BadLine, TooLarge, Read}
use Rattle.uca_conform.specs.declared.conforming.ConformFault.{ConformFault}

-- the three numbers
abbrev pub report_in : Conformance → Report
report_in c = record { lines = c.lines; skipped = c.skipped; first_failure = c.first_failure }

-- a reader gave all of a test file, and the numbers are its report by the table
abbrev pub GivesReport : ElementTable → Settings → ReaderState → ReaderState → Conformance → Type 0
GivesReport t s old new c = GivesText (report_of t s) old new (report_in c)

-- why a file was refused, at a line
abbrev pub RefusedBy : ElementTable → Settings → ConformCause → ReaderState → ReaderState → ℕ → Type 0
RefusedBy t s LineTooLong old new line = IsFaulty (report_of t s) old new line line_too_long
RefusedBy t s BadLine old new line = IsFaulty (report_of t s) old new line bad_line
RefusedBy t s TooLarge old new line = IsFaulty (report_of t s) old new line too_large
RefusedBy t s Read old new line = FailsFirst (report_of t s) old new line read

-- the same of a fault
abbrev pub RefusesFile : ElementTable → Settings → ReaderState → ReaderState → ConformFault → Type 0
RefusesFile t s old new fault = RefusedBy t s fault.cause old new fault.line
