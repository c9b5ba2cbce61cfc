-- What is written line by line, and what stops it.
use Rattle.std.specs.Prelude.{◌≡◌, ℕ, List, [], ◌∷◌, ◌++◌, flat_map}
use Rattle.uca_io.specs.WriterState.{WriterState}
use Rattle.uca_io.specs.Writer.{WritesFront}
use Rattle.uca_io.specs.OutputBuffer.{FailsPartway}
use Rattle.uca_io.specs.BufferState.{BufferState}
use Rattle.uca_weights.specs.declared.settings.Settings.{Settings}
use Rattle.uca_model.specs.ElementsOutput.{elements_line}
use Rattle.uca_model.specs.Lines.{line_feed, lines_of}
use Rattle.uca_model.specs.Output.{key_line}
use Rattle.uca_model.specs.Table.{ElementTable}
use Rattle.uca_model.specs.WellFormed.{Condition, condition_name}
use Rattle.uca_commands.specs.Commands.{WritesSome}
use Rattle.uca_commands.specs.declared.faults.CliFault.{CliFault}
use Rattle.uca_commands.specs.declared.faults.CliFault.TheVariants.{Output, OutOfMemory}
use Rattle.uca_commands.specs.declared.output.LineForm.{LineForm}
use Rattle.uca_commands.specs.declared.output.LineForm.TheVariants.{Elements, Key}

-- what is written for a line
abbrev pub line_text : LineForm → ElementTable → Settings → List ℕ → List ℕ
line_text Elements t s line = elements_line t line
line_text Key t s line = key_line t s line

-- what is written for all lines
abbrev pub lines_text : LineForm → ElementTable → Settings → List ℕ → List ℕ
lines_text form t s bytes = flat_map (line_text form t s) (lines_of bytes)

-- the line of a condition that a table breaks
abbrev pub finding_line : Condition → List ℕ
finding_line c = condition_name c ++ line_feed ∷ []

-- the writer stopped a line, or memory was refused before anything of it was accepted
abbrev pub StopsLine : WriterState → BufferState → WriterState → BufferState → List ℕ → CliFault → Type 0
StopsLine old before new after line (Output fault) = FailsPartway old before new line fault
StopsLine old before new after line OutOfMemory = (new ≡ old) × (after ≡ before)
StopsLine old before new after line _ = ⊥

-- the writer stopped the output, or memory was refused when a front of it had been written
abbrev pub StopsOutput : WriterState → WriterState → List ℕ → CliFault → Type 0
StopsOutput old new whole (Output fault) = WritesFront old new whole fault
StopsOutput old new whole OutOfMemory = WritesSome old new whole
StopsOutput old new whole _ = ⊥
