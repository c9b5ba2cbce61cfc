-- What is known of a writer, and what calls of it do.
use Rattle.std.specs.Prelude.{◌≡◌, ℕ, ◌<◌, List, length, take}
use Rattle.std.specs.Io.KnownBytes.{Appends}
use Rattle.uca_io.specs.declared.writer.WriteCause.{WriteCause}
use Rattle.uca_io.specs.declared.writer.WriteCause.TheVariants.{Failed, Zero}
use Rattle.uca_io.specs.declared.writer.WriteFault.{WriteFault}
use Rattle.uca_io.specs.Counts.{one_more}
use Rattle.uca_io.specs.WriterState.{WriterState}

-- all of these bytes were written, and no call failed or took nothing
pub record WritesAll (old new : WriterState) (bytes : List ℕ) : Type 0 where
  pub out : Appends old.taken new.taken bytes
  pub failures : new.failures ≡ old.failures
  pub zeros : new.zeros ≡ old.zeros

-- a single call failed, or a single one took nothing
abbrev pub CountsCause : WriteCause → WriterState → WriterState → Type 0
CountsCause Failed old new = (new.failures ≡ one_more old.failures) × (new.zeros ≡ old.zeros)
CountsCause Zero old new = (new.zeros ≡ one_more old.zeros) × (new.failures ≡ old.failures)

-- exactly the first bytes were written, as many as the fault reports, and then there was its cause
pub record WritesFront (old new : WriterState) (bytes : List ℕ) (fault : WriteFault) : Type 0 where
  pub part : fault.written < length bytes
  pub out : Appends old.taken new.taken (take fault.written bytes)
  pub cause : CountsCause fault.cause old new
