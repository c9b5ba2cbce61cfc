-- What a reader of table texts returns.
use Rattle.std.specs.Prelude.{◌≡◌, ℕ}
use Rattle.uca_io.specs.LineReader.{FailsFirst, GivesSome, GivesText, IsFaulty}
use Rattle.uca_io.specs.Reader.{ReaderState}
use Rattle.uca_model.specs.Table.{ElementTable}
use Rattle.uca_model.specs.TableText.{TextState, read, line_too_long, bad_directive, bad_code_point, key_too_long, no_semicolon, bad_element, no_element, too_many_elements, repeated, bad_range, too_large, table_of_text}
use Rattle.uca_allkeys.specs.declared.faults.ReadCause.{ReadCause}
use Rattle.uca_allkeys.specs.declared.faults.ReadCause.TheVariants.{LineTooLong, BadDirective, BadCodePoint, KeyTooLong, NoSemicolon, BadElement, NoElement, TooManyElements, Repeated, BadRange, TooLarge, Read, OutOfMemory}
use Rattle.uca_allkeys.specs.declared.faults.ReadFault.{ReadFault}
use Rattle.uca_allkeys.specs.declared.lines.Lines.{Lines}

-- what the lines so far have said
abbrev pub state_of : Lines → TextState
state_of l = record { table = l.builder; has_version = l.has_version }

-- a reader gave all of a text, and the table is what the text says
abbrev pub GivesTable : ReaderState → ReaderState → ElementTable → Type 0
GivesTable old new t = GivesText table_of_text old new t

-- memory was refused, after some bytes of a text
pub record WantsMemory (old new : ReaderState) (line : ℕ) : Type 0 where
  pub some : GivesSome old new
  pub nowhere : line ≡ 0

-- why a text was refused, at a line
abbrev pub RefusedBy : ReadCause → ReaderState → ReaderState → ℕ → Type 0
RefusedBy LineTooLong old new line = IsFaulty table_of_text old new line line_too_long
RefusedBy BadDirective old new line = IsFaulty table_of_text old new line bad_directive
RefusedBy BadCodePoint old new line = IsFaulty table_of_text old new line bad_code_point
RefusedBy KeyTooLong old new line = IsFaulty table_of_text old new line key_too_long
RefusedBy NoSemicolon old new line = IsFaulty table_of_text old new line no_semicolon
RefusedBy BadElement old new line = IsFaulty table_of_text old new line bad_element
RefusedBy NoElement old new line = IsFaulty table_of_text old new line no_element
RefusedBy TooManyElements old new line = IsFaulty table_of_text old new line too_many_elements
RefusedBy Repeated old new line = IsFaulty table_of_text old new line repeated
RefusedBy BadRange old new line = IsFaulty table_of_text old new line bad_range
RefusedBy TooLarge old new line = IsFaulty table_of_text old new line too_large
RefusedBy Read old new line = FailsFirst table_of_text old new line read
RefusedBy OutOfMemory old new line = WantsMemory old new line

-- the same of a fault
abbrev pub IsRefused : ReaderState → ReaderState → ReadFault → Type 0
IsRefused old new fault = RefusedBy fault.cause old new fault.line
