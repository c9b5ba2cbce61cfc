-- The commands: what each reads, what it writes, its exit status, and how far it gets where memory is refused.
use Rattle.std.specs.Prelude.{◌≡◌, ℕ, ◌<◌, ◌==◌, if◌then◌else◌, List, [], ◌∷◌, ◌++◌, length, Ok, chars}
use Rattle.std.specs.Option.{is_some}
use Rattle.uca_weights.specs.declared.settings.Settings.{Settings}
use Rattle.uca_io.specs.declared.writer.WriteFault.{WriteFault}
use Rattle.uca_io.specs.Reader.{ReaderState, GivesAll}
use Rattle.uca_io.specs.WriterState.{WriterState}
use Rattle.uca_io.specs.Writer.{WritesAll, WritesFront}
use Rattle.uca_model.specs.CanonicalText.{canonical}
use Rattle.uca_model.specs.CompareOutput.{compare_output}
use Rattle.uca_model.specs.ElementsOutput.{elements_output}
use Rattle.uca_model.specs.Lines.{lines_of}
use Rattle.uca_model.specs.OrderOutput.{IsOrderOutput}
use Rattle.uca_model.specs.Output.{key_output}
use Rattle.uca_model.specs.SortKey.{sort_key}
use Rattle.uca_model.specs.Table.{ElementTable}
use Rattle.uca_model.specs.TestFile.{Report, ends, report_of, report_text}
use Rattle.uca_model.specs.WellFormed.{broken, lint_output}
use Rattle.uca_conform.specs.Conforming.{RefusesFile}
use Rattle.uca_commands.specs.Input.{ReadsLines, ReadsOneLine, RefusesInput, RefusesOneLine}
use Rattle.uca_commands.specs.declared.faults.CliFault.{CliFault}
use Rattle.uca_commands.specs.declared.faults.CliFault.TheVariants as fault

-- a command
pub record Command : Type 1 where
  -- its input, which was read
  pub reads : ReaderState → ReaderState → List ℕ → Type 0
  -- why its input was refused
  pub refuses : ElementTable → Settings → ReaderState → ReaderState → CliFault → Type 0
  -- what it writes with a table for an input
  pub output : ElementTable → Settings → List ℕ → List ℕ → Type 0
  -- its exit status, once it succeeded
  pub status : ElementTable → Settings → List ℕ → ℕ → Type 0
  -- how far its output got where memory was refused
  pub refused_memory : ElementTable → Settings → List ℕ → WriterState → WriterState → Type 0

-- ---- what commands read

-- the reader was not used
pub record ReadsNothing (old new : ReaderState) (bytes : List ℕ) : Type 0 where
  pub none : bytes ≡ []
  pub same : new ≡ old

-- an input of lines was refused
abbrev pub RefusesLines : ElementTable → Settings → ReaderState → ReaderState → CliFault → Type 0
RefusesLines t s old new (fault.Input f) = RefusesInput old new f
RefusesLines t s old new _ = ⊥

-- an input of one line was refused
abbrev pub RefusesLine : ElementTable → Settings → ReaderState → ReaderState → CliFault → Type 0
RefusesLine t s old new (fault.Input f) = RefusesOneLine old new f
RefusesLine t s old new _ = ⊥

-- a test file was refused
abbrev pub RefusesTestFile : ElementTable → Settings → ReaderState → ReaderState → CliFault → Type 0
RefusesTestFile t s old new (fault.Conform f) = RefusesFile t s old new f
RefusesTestFile t s old new _ = ⊥

-- ---- what commands write

-- `key --raw`: the sort key of the one line
abbrev pub raw_key_output : ElementTable → Settings → List (List ℕ) → List ℕ
raw_key_output t s (line ∷ []) = sort_key t s (chars line)
raw_key_output t s _ = []

-- `check`: the report of the test file
pub record IsCheckOutput (t : ElementTable) (s : Settings) (bytes output : List ℕ) : Type 0 where
  pub report : Report
  pub says : report_of t s ends bytes ≡ Ok report
  pub text : output ≡ report_text report

-- and 1 where some line fails
pub record IsCheckStatus (t : ElementTable) (s : Settings) (bytes : List ℕ) (status : ℕ) : Type 0 where
  pub report : Report
  pub says : report_of t s ends bytes ≡ Ok report
  pub answers : status ≡ (if is_some report.first_failure then 1 else 0)

-- `lint`: 1 where some condition is broken
abbrev pub lint_status : ElementTable → ℕ
lint_status t = if length (broken t) == 0 then 0 else 1

-- some of the first bytes were written, but not all, and no call failed or took nothing
pub record WritesSome (old new : WriterState) (bytes : List ℕ) : Type 0 where
  pub went : List ℕ
  pub writes : WritesAll old new went
  pub left : List ℕ
  pub parts : bytes ≡ went ++ left
  pub more : 0 < length left

-- ---- the table of the commands

-- `elements` allocates for each line before it writes any of it
abbrev pub elements_command : Command
elements_command = record {
  reads = ReadsLines;
  refuses = RefusesLines;
  output = λ t s bytes output. output ≡ elements_output t bytes;
  status = λ t s bytes status. status ≡ 0;
  refused_memory = λ t s bytes old new. WritesSome old new (elements_output t bytes);
}

-- `key` does so too
abbrev pub key_command : Command
key_command = record {
  reads = ReadsLines;
  refuses = RefusesLines;
  output = λ t s bytes output. output ≡ key_output t s bytes;
  status = λ t s bytes status. status ≡ 0;
  refused_memory = λ t s bytes old new. WritesSome old new (key_output t s bytes);
}

-- `key --raw` does not allocate once its line was read
abbrev pub raw_key_command : Command
raw_key_command = record {
  reads = ReadsOneLine;
  refuses = RefusesLine;
  output = λ t s bytes output. output ≡ raw_key_output t s (lines_of bytes);
  status = λ t s bytes status. status ≡ 0;
  refused_memory = λ t s bytes old new. ⊥;
}

-- nor does `compare`
abbrev pub compare_command : Command
compare_command = record {
  reads = ReadsLines;
  refuses = RefusesLines;
  output = λ t s bytes output. output ≡ compare_output t s bytes;
  status = λ t s bytes status. status ≡ 0;
  refused_memory = λ t s bytes old new. ⊥;
}

-- `order` allocates everything before it writes, and nothing where there are no lines
abbrev pub order_command : Command
order_command = record {
  reads = ReadsLines;
  refuses = RefusesLines;
  output = IsOrderOutput;
  status = λ t s bytes status. status ≡ 0;
  refused_memory = λ t s bytes old new. (new ≡ old) × (0 < length bytes);
}

-- `check` does not allocate
abbrev pub check_command : Command
check_command = record {
  reads = GivesAll;
  refuses = RefusesTestFile;
  output = IsCheckOutput;
  status = IsCheckStatus;
  refused_memory = λ t s bytes old new. ⊥;
}

-- nor does `lint`
abbrev pub lint_command : Command
lint_command = record {
  reads = ReadsNothing;
  refuses = λ t s old new f. ⊥;
  output = λ t s bytes output. output ≡ lint_output t;
  status = λ t s bytes status. status ≡ lint_status t;
  refused_memory = λ t s bytes old new. ⊥;
}

-- nor does `table`
abbrev pub table_command : Command
table_command = record {
  reads = ReadsNothing;
  refuses = λ t s old new f. ⊥;
  output = λ t s bytes output. output ≡ canonical t;
  status = λ t s bytes status. status ≡ 0;
  refused_memory = λ t s bytes old new. ⊥;
}

-- ---- the result of a command

-- what is known of the reader of the input, and of the writer
pub record Ends : Type 0 where
  pub input : ReaderState
  pub output : WriterState

-- the input was read, and all of the output was written
pub record Does (c : Command) (t : ElementTable) (s : Settings) (old new : Ends) (status : ℕ) : Type 0 where
  pub bytes : List ℕ
  pub reads : c.reads old.input new.input bytes
  pub output : List ℕ
  pub made : c.output t s bytes output
  pub writes : WritesAll old.output new.output output
  pub answers : c.status t s bytes status

-- the input was refused, and nothing was written
pub record FailsToRead (c : Command) (t : ElementTable) (s : Settings) (old new : Ends) (f : CliFault) : Type 0 where
  pub input : c.refuses t s old.input new.input f
  pub output : new.output ≡ old.output

-- the input was read, and the writer stopped the output
pub record FailsToWrite (c : Command) (t : ElementTable) (s : Settings) (old new : Ends) (f : WriteFault) : Type 0 where
  pub bytes : List ℕ
  pub reads : c.reads old.input new.input bytes
  pub output : List ℕ
  pub made : c.output t s bytes output
  pub writes : WritesFront old.output new.output output f

-- the input was read, and memory was refused
pub record LacksMemory (c : Command) (t : ElementTable) (s : Settings) (old new : Ends) : Type 0 where
  pub bytes : List ℕ
  pub reads : c.reads old.input new.input bytes
  pub writes : c.refused_memory t s bytes old.output new.output

-- why a command failed: the whole input is read and checked before anything is written
abbrev pub Fails : Command → ElementTable → Settings → Ends → Ends → CliFault → Type 0
Fails c t s old new (fault.Output f) = FailsToWrite c t s old new f
Fails c t s old new fault.OutOfMemory = LacksMemory c t s old new
Fails c t s old new f = FailsToRead c t s old new f
