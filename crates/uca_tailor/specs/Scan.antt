-- A scan over the text of rules: where it is, and what is left.
use Rattle.std.specs.Prelude.{◌≡◌, ℕ, ◌+◌, ◌^◌, ◌<◌, List, [], ◌∷◌, length, take, drop, Option, Some, None, MatchOption, encode_utf8_all}
use Rattle.std.specs.Str.{chars, IsUtf8}
use Rattle.std.specs.Str.Iter.{char_indices_rest, char_indices_offset}
use Rattle.std.specs.declared.str.CharIndices.{CharIndices}

-- the byte, and the characters from it on
pub record ScanState : Type 0 where
  pub at : ℕ
  pub left : List ℕ

-- at the start of a text
abbrev pub scan_of : List ℕ → ScanState
scan_of text = record { at = 0; left = text }

-- after this many more characters
abbrev pub passed : ℕ → ScanState → ScanState
passed n s = record { at = s.at + length (encode_utf8_all (take n s.left)); left = drop n s.left }

-- the first character that is left
abbrev pub first_left : List ℕ → Option ℕ
first_left [] = None
first_left (c ∷ cs) = Some c

-- one character is taken, unless none is left
abbrev pub TakesOne : ScanState → Option ℕ → ScanState → Type 0
TakesOne s given t = MatchOption given ((s.left ≡ []) × (t ≡ s)) (λ c. (s.left ≡ c ∷ t.left) × (t ≡ passed 1 s))

-- Iterators

-- what the iterator over the characters of a text shows
abbrev pub state_of : CharIndices → ScanState
state_of it = record { at = char_indices_offset it; left = chars (char_indices_rest it) }

-- its rest is a text, and its offsets fit
pub record IsCursor (it : CharIndices) : Type 0 where
  pub utf8 : IsUtf8 (char_indices_rest it)
  pub room : char_indices_offset it + length (char_indices_rest it) < 2 ^ 64
