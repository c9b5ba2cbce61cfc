-- What is known of a reader, and what calls of it do.
use Rattle.std.specs.Prelude.{◌≡◌, ℕ, List, Option}
use Rattle.std.specs.Io.KnownBytes.{Consumes, IsAtEnd}
use Rattle.uca_io.specs.Counts.{one_more}

-- the bytes still to come, where they are known, and how many of its calls failed
pub record ReaderState : Type 0 where
  pub coming : Option (List ℕ)
  pub failures : ℕ

-- it gave these bytes, and no call failed
pub record Gives (old new : ReaderState) (bytes : List ℕ) : Type 0 where
  pub given : Consumes old.coming new.coming bytes
  pub failures : new.failures ≡ old.failures

-- it gave these bytes, and has no more
pub record GivesAll (old new : ReaderState) (bytes : List ℕ) : Type 0 where
  pub gives : Gives old new bytes
  pub ends : IsAtEnd new.coming

-- it gave these bytes, and then failed
pub record GivesAndFails (old new : ReaderState) (bytes : List ℕ) : Type 0 where
  pub given : Consumes old.coming new.coming bytes
  pub failures : new.failures ≡ one_more old.failures
