-- Bytes that are put into a buffer piece by piece.
use Rattle.std.specs.Prelude.{◌≡◌, ◌≤◌, ℕ, ◌+◌, ◌-◌, ◌^◌, min, List, ◌++◌, length, take, drop}

-- the front of a buffer has some bytes, or as many of them as fit, and the rest of it is as it was
abbrev pub with_front : List ℕ → List ℕ → List ℕ
with_front bytes buffer = take (length buffer) bytes ++ drop (length bytes) buffer

-- the same from a place of the buffer on
abbrev pub with_bytes_at : ℕ → List ℕ → List ℕ → List ℕ
with_bytes_at at bytes buffer = take at buffer ++ with_front bytes (drop at buffer)

-- bytes were put at a place of a buffer, as many of them as fit, and the next ones belong at `next`, a number that stops at 2^64 - 1
pub record PutsAt (at : ℕ) (bytes before after : List ℕ) (next : ℕ) : Type 0 where
  pub written : after ≡ with_bytes_at at bytes before
  pub counted : next ≡ min (at + length bytes) (2 ^ 64 - 1)

-- bytes were put between two places of a buffer, and what comes after them is as it was
pub record StaysAfter (from to : ℕ) (before after : List ℕ) : Type 0 where
  pub later : from ≤ to
  pub rest : drop to after ≡ drop to before

-- the same, but for the byte after them, which may have changed
pub record StaysBeyond (from to : ℕ) (before after : List ℕ) : Type 0 where
  pub later : from ≤ to
  pub rest : drop (to + 1) after ≡ drop (to + 1) before

-- a front of the whole was put, and the other bytes are left
pub record IsPutting (at : ℕ) (before : List ℕ) (next : ℕ) (now whole left : List ℕ) : Type 0 where
  pub put : List ℕ
  pub puts : PutsAt at put before now next
  pub parts : put ++ left ≡ whole
