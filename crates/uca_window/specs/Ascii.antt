-- Bytes of which some are ASCII.
use Rattle.std.specs.Prelude.{ℕ, ◌≤◌, ◌<◌, List, slice_index}

-- from a place on and before another one
abbrev pub IsAsciiFrom : ℕ → ℕ → List ℕ → Type 0
IsAsciiFrom from to bytes = (k : ℕ) → from ≤ k → k < to → slice_index bytes k < 0x80
