-- The lines of an input in the order of their keys: what was written of them, and what stopped it.
use Rattle.std.specs.Prelude.{◌≡◌, ℕ, ◌<◌, List, length, map, flat_map}
use Rattle.uca_weights.specs.declared.settings.Settings.{Settings}
use Rattle.uca_io.specs.declared.writer.WriteFault.{WriteFault}
use Rattle.uca_io.specs.WriterState.{WriterState}
use Rattle.uca_io.specs.Writer.{WritesAll, WritesFront}
use Rattle.uca_model.specs.Lines.{lines_of}
use Rattle.uca_model.specs.OrderOutput.{IsOrderOutput, line_key}
use Rattle.uca_model.specs.Table.{ElementTable}
use Rattle.uca_commands.specs.Commands.{Ends, Fails, order_command}
use Rattle.uca_commands.specs.KeyPieces.{ends_from}
use Rattle.uca_commands.specs.Input.{ReadsLines}
use Rattle.uca_commands.specs.declared.faults.CliFault.{CliFault}
use Rattle.uca_commands.specs.declared.faults.CliFault.TheVariants as fault

-- ---- of the keys of its lines

-- the keys of some lines, one after the other, and where each ends
pub record AreKeys (t : ElementTable) (s : Settings) (lines : List (List ℕ)) (bytes ends : List ℕ) : Type 0 where
  pub all : bytes ≡ flat_map (line_key t s) lines
  pub each : ends ≡ ends_from 0 (map (line_key t s) lines)

-- ---- of an input that was read

-- its lines were written in order, and there are this many
pub record WritesInOrder (t : ElementTable) (s : Settings) (bytes : List ℕ) (old new : WriterState) (count : ℕ) : Type 0 where
  pub output : List ℕ
  pub made : IsOrderOutput t s bytes output
  pub writes : WritesAll old new output
  pub counted : count ≡ length (lines_of bytes)

-- the writer stopped them
pub record StopsLines (t : ElementTable) (s : Settings) (bytes : List ℕ) (old new : WriterState) (f : WriteFault) : Type 0 where
  pub output : List ℕ
  pub made : IsOrderOutput t s bytes output
  pub writes : WritesFront old new output f

-- what stopped them; everything is allocated before the first byte is written, and nothing where there are no lines
abbrev pub StopsInOrder : ElementTable → Settings → List ℕ → WriterState → WriterState → CliFault → Type 0
StopsInOrder t s bytes old new (fault.Output f) = StopsLines t s bytes old new f
StopsInOrder t s bytes old new fault.OutOfMemory = (new ≡ old) × (0 < length bytes)
StopsInOrder t s bytes old new _ = ⊥

-- ---- of an input in a reader

-- its lines were read, all of them texts, and were written in order
pub record Orders (t : ElementTable) (s : Settings) (old new : Ends) (count : ℕ) : Type 0 where
  pub bytes : List ℕ
  pub reads : ReadsLines old.input new.input bytes
  pub writes : WritesInOrder t s bytes old.output new.output count

-- why they were not: the command failed
abbrev pub RefusesOrder : ElementTable → Settings → Ends → Ends → CliFault → Type 0
RefusesOrder = Fails order_command
