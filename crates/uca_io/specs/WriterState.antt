-- What is known of a writer.
use Rattle.std.specs.Prelude.{ℕ, Bool, false, ◌==◌, ◌&&◌, nat_lt, List, length, Option, Result, Ok, Err}

-- the bytes that it took, where they are known, how many of its calls failed, and how many took nothing of a piece that was not empty
pub record WriterState : Type 0 where
  pub taken : Option (List ℕ)
  pub failures : ℕ
  pub zeros : ℕ

-- a call returned 0 for a piece that was not empty
abbrev pub took_none : {E : Type 0} → Result ℕ E → List ℕ → Bool
took_none (Ok n) piece = n == 0 && nat_lt 0 (length piece)
took_none (Err e) piece = false
