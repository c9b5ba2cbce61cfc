-- What was written where the bytes of a key were sent to a writer, or a part of them.
use Rattle.std.specs.Prelude.{List, ℕ, MatchResult, Result}
use Rattle.uca_io.specs.BufferState.{BufferState}
use Rattle.uca_io.specs.OutputBuffer.{Accepts, FailsPartway}
use Rattle.uca_io.specs.WriterState.{WriterState}
use Rattle.uca_io.specs.declared.writer.WriteFault.{WriteFault}
use Rattle.uca_key.specs.declared.streaming.KeyFault.{KeyFault}

-- bytes were sent, or on a fault a part of them
abbrev pub Sends : WriterState → BufferState → WriterState → BufferState → List ℕ → Result (Unit {0}) WriteFault → Type 0
Sends before waiting after waits bytes result = MatchResult result (λ _. Accepts before waiting after waits bytes) (λ f. FailsPartway before waiting after bytes f)

-- the fault of the writer: the bytes of the key are all that was written
abbrev pub write_fault : KeyFault → WriteFault
write_fault f = record { written = f.written; cause = f.cause }
