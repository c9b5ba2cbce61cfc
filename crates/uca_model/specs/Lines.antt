-- The lines of an input, and what may be wrong with it.
use Rattle.std.specs.Prelude.{◌≡◌, ℕ, ◌+◌, ◌==◌, List, [], ◌∷◌, ◌++◌, length, map, All, IsUtf8, chars, if◌then◌else◌}
use Rattle.std.specs.Str.Lossy.{utf8_valid_len}
pub use Rattle.uca_io.specs.Lines.{line_feed, carriage_return, without_return}
use Rattle.uca_model.specs.SafeText.{IsSafe, IsLongRunAt}

-- a byte in front of the first of some lines
abbrev pub onto : ℕ → List (List ℕ) → List (List ℕ)
onto b [] = (b ∷ []) ∷ []
onto b (line ∷ lines) = (b ∷ line) ∷ lines

-- the bytes up to each LF, and those after the last one, where there are any
abbrev pub split_lines : List ℕ → List (List ℕ)
split_lines [] = []
split_lines (b ∷ bytes) = if b == line_feed then [] ∷ split_lines bytes else onto b (split_lines bytes)

-- the lines of an input: each ends at LF or at the end of the input, and one CR there is not part of it
abbrev pub lines_of : List ℕ → List (List ℕ)
lines_of bytes = map without_return (split_lines bytes)

-- a line that is a safe text
pub record IsTextLine (line : List ℕ) : Type 0 where
  pub utf8 : IsUtf8 line
  pub safe : IsSafe (chars line)

-- what is wrong with a line, and at which of its bytes
pub data LineFault : Type 0 where
  not_utf8 : ℕ → LineFault
  long_run : ℕ → LineFault

-- a line that is no UTF-8 is so after its longest valid prefix; a text that is not safe is so at its long run
abbrev pub HasFault : List ℕ → LineFault → Type 0
HasFault line (not_utf8 at) = (¬ IsUtf8 line) × (at ≡ utf8_valid_len line)
HasFault line (long_run at) = IsUtf8 line × IsLongRunAt (chars line) at

-- the first line with a fault, by its number from 1, and the fault
pub record IsFirstFault (lines : List (List ℕ)) (number : ℕ) (fault : LineFault) : Type 0 where
  pub front : List (List ℕ)
  pub line : List ℕ
  pub after : List (List ℕ)
  pub parts : lines ≡ front ++ line ∷ after
  pub fine : All IsTextLine front
  pub counted : number ≡ length front + 1
  pub faulty : HasFault line fault
