-- What is known of a buffer before a writer.
use Rattle.std.specs.Prelude.{ℕ, List}

-- the bytes that wait to be written, and the count of those written before them
pub record BufferState : Type 0 where
  pub waiting : List ℕ
  pub written : ℕ
