-- An input of lines: what was read of it, and why it was refused.
use Rattle.std.specs.Prelude.{◌≡◌, ℕ, ◌≤◌, ◌⊎◌, List, length, All}
use Rattle.uca_weights.specs.declared.limits.TheConstants.{MAX_INPUT}
use Rattle.uca_io.specs.Reader.{ReaderState, GivesAll}
use Rattle.uca_io.specs.ReadWhole.{StopsAt}
use Rattle.uca_io.specs.declared.reading.Stop.TheVariants as stop
use Rattle.uca_model.specs.Lines.{lines_of, not_utf8, long_run, IsFirstFault, IsTextLine}
use Rattle.uca_window.specs.declared.fault.TextFault.{TextFault}
use Rattle.uca_window.specs.declared.fault.TextFault.TheVariants as text
use Rattle.uca_commands.specs.declared.input_fault.InputCause.{InputCause}
use Rattle.uca_commands.specs.declared.input_fault.InputCause.TheVariants.{NotUtf8, LongRun, TooLarge, Read, OutOfMemory, NotOneLine}
use Rattle.uca_commands.specs.declared.input_fault.InputFault.{InputFault}

-- an input of lines was not read to its end
abbrev pub StopsBy : InputCause → ReaderState → ReaderState → Type 0
StopsBy TooLarge old new = StopsAt MAX_INPUT stop.TooLarge old new
StopsBy Read old new = StopsAt MAX_INPUT stop.Read old new
StopsBy OutOfMemory old new = StopsAt MAX_INPUT stop.OutOfMemory old new
StopsBy _ old new = ⊥

-- no line is at fault
pub record StopsReading (old new : ReaderState) (fault : InputFault) : Type 0 where
  pub line : fault.line ≡ 0
  pub place : fault.at ≡ 0
  pub cause : StopsBy fault.cause old new

-- the fault of a line, as one of the input
abbrev pub fault_at : ℕ → TextFault → InputFault
fault_at line (text.NotUtf8 at) = record { line = line; at = at; cause = NotUtf8 }
fault_at line (text.LongRun at) = record { line = line; at = at; cause = LongRun }

-- what a cause at a line and a byte of it is to some lines: that of the first line with a fault
abbrev pub IsFirstFaultAt : InputCause → List (List ℕ) → ℕ → ℕ → Type 0
IsFirstFaultAt NotUtf8 lines line at = IsFirstFault lines line (not_utf8 at)
IsFirstFaultAt LongRun lines line at = IsFirstFault lines line (long_run at)
IsFirstFaultAt _ lines line at = ⊥

-- the fault is that of the first line that has one
abbrev pub HasInputFault : List (List ℕ) → InputFault → Type 0
HasInputFault lines fault = IsFirstFaultAt fault.cause lines fault.line fault.at

-- an input is a single line
abbrev pub IsOneLine : List ℕ → Type 0
IsOneLine bytes = length (lines_of bytes) ≡ 1

-- ---- lines that were read

-- the reader gave these bytes and no more: they are not too many
pub record ReadsInput (old new : ReaderState) (bytes : List ℕ) : Type 0 where
  pub given : GivesAll old new bytes
  pub small : length bytes ≤ MAX_INPUT

-- the bytes of an input whose lines are all safe texts
pub record ReadsLines (old new : ReaderState) (bytes : List ℕ) : Type 0 where
  pub input : ReadsInput old new bytes
  pub lines : All IsTextLine (lines_of bytes)

-- the same of an input that is a single line
pub record ReadsOneLine (old new : ReaderState) (bytes : List ℕ) : Type 0 where
  pub text : ReadsLines old new bytes
  pub one : IsOneLine bytes

-- ---- lines that were refused

-- the whole input was read, and the fault is that of its first line that has one
pub record HasFaultyLine (old new : ReaderState) (f : InputFault) : Type 0 where
  pub bytes : List ℕ
  pub input : ReadsInput old new bytes
  pub faulty : HasInputFault (lines_of bytes) f

-- the input is refused: it was not read to its end, or a line of it is at fault
abbrev pub RefusesInput : ReaderState → ReaderState → InputFault → Type 0
RefusesInput old new f = StopsReading old new f ⊎ HasFaultyLine old new f

-- the whole input was read, and all of its lines are texts, but it is not a single line
pub record HasOtherLines (old new : ReaderState) (f : InputFault) : Type 0 where
  pub bytes : List ℕ
  pub text : ReadsLines old new bytes
  pub other : ¬ IsOneLine bytes
  pub fault : f ≡ record { line = 0; at = 0; cause = NotOneLine }

-- where one line is expected, the input is refused, or is not a single line
abbrev pub RefusesOneLine : ReaderState → ReaderState → InputFault → Type 0
RefusesOneLine old new f = RefusesInput old new f ⊎ HasOtherLines old new f
