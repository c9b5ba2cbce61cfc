-- What is written through a buffer.
use Rattle.std.specs.Prelude.{◌≡◌, ℕ, ◌+◌, ◌-◌, ◌<◌, ◌≤◌, List, ◌++◌, length, take}
use Rattle.std.specs.Io.KnownBytes.{Appends}
use Rattle.uca_io.specs.WriterState.{WriterState}
use Rattle.uca_io.specs.Writer.{WritesAll, CountsCause}
use Rattle.uca_io.specs.declared.writer.WriteFault.{WriteFault}
use Rattle.uca_io.specs.BufferState.{BufferState}

-- how many bytes were accepted in all: those written, and those that wait
abbrev pub accepted : BufferState → ℕ
accepted o = o.written + length o.waiting

-- these bytes were accepted, after those that waited: a front of all of them was written, and the rest waits
pub record Accepts (old : WriterState) (before : BufferState) (new : WriterState) (after : BufferState) (bytes : List ℕ) : Type 0 where
  pub went : List ℕ
  pub writes : WritesAll old new went
  pub counted : after.written ≡ before.written + length went
  pub all : before.waiting ++ bytes ≡ went ++ after.waiting

-- not all of what waited and of these bytes was written
pub record FailsPartway (old : WriterState) (before : BufferState) (new : WriterState) (bytes : List ℕ) (fault : WriteFault) : Type 0 where
  pub from_here : before.written ≤ fault.written
  pub part : fault.written < before.written + length (before.waiting ++ bytes)
  pub out : Appends old.taken new.taken (take (fault.written - before.written) (before.waiting ++ bytes))
  pub cause : CountsCause fault.cause old new
