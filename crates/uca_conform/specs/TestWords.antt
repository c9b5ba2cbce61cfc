-- The words of a test line, from its front on.
use Rattle.std.specs.Prelude.{◌≡◌, ℕ, ◌+◌, ◌≤◌, ◌<◌, Bool, true, false, ◌||◌, ◌⊎◌, List, [], ◌∷◌, ◌++◌, length, drop, Some, None}
use Rattle.std.specs.Char.{digit_value, is_digit}
use Rattle.std.specs.List.{before_first}
use Rattle.uca_model.specs.TableText.{is_blank, number, words}
use Rattle.uca_model.specs.TestFile.{ends_points, test_point}

-- those of its code points
abbrev pub said_words : List ℕ → List (List ℕ)
said_words line = words (before_first ends_points line)

-- a word ends before this byte
abbrev pub ends_at : ℕ → Bool
ends_at b = is_blank b || ends_points b

-- and before these bytes
abbrev pub ends_word : List ℕ → Bool
ends_word [] = true
ends_word (b ∷ bytes) = ends_at b

-- this many digits, at most six, spell this number
pub record AreDigits (word : List ℕ) (value len : ℕ) : Type 0 where
  pub said : number word ≡ Some value
  pub size : length word ≡ len
  pub few : len ≤ 6

-- the digit of a place has this value, and is not the seventh
pub record IsDigitAt (bytes : List ℕ) (at digit : ℕ) : Type 0 where
  pub byte : ℕ
  pub more : List ℕ
  pub step : drop at bytes ≡ byte ∷ more
  pub is_one : is_digit byte 16 ≡ true
  pub value : digit ≡ digit_value byte
  pub small : digit < 16
  pub room : at ≡ 6 → ⊥

-- no digit is at a place, or the seventh
abbrev pub NoDigitAt : List ℕ → ℕ → Type 0
NoDigitAt bytes at = (b : ℕ) (more : List ℕ) → drop at bytes ≡ b ∷ more → (is_digit b 16 ≡ false) ⊎ (at ≡ 6)

-- bytes begin with digits, and go on with no other, or with the seventh
pub record BeginsWithDigits (bytes : List ℕ) (value len : ℕ) (rest : List ℕ) : Type 0 where
  pub word : List ℕ
  pub parts : bytes ≡ word ++ rest
  pub digits : AreDigits word value len
  pub stops : (b : ℕ) (more : List ℕ) → rest ≡ b ∷ more → (is_digit b 16 ≡ false) ⊎ (len ≡ 6)

-- the next word of a line spells a code point
pub record IsNextPoint (line : List ℕ) (point : ℕ) (rest : List ℕ) : Type 0 where
  pub word : List ℕ
  pub split : said_words line ≡ word ∷ said_words rest
  pub said : Some point ≡ test_point word
  pub shorter : 4 + length rest ≤ length line

-- the next word of a line spells none
pub record HasBadWord (line : List ℕ) : Type 0 where
  pub word : List ℕ
  pub others : List (List ℕ)
  pub split : said_words line ≡ word ∷ others
  pub said : None ≡ test_point word
