-- Unified ideographs (UTS #10, section 10.1.3): those of a fixed list, and ranges of further ones.
use Rattle.std.specs.Prelude.{◌≡◌, ℕ, ◌≤◌, ◌<◌, Bool, false, ◌&&◌, ◌||◌, nat_le, List, [], ◌∷◌}
use Rattle.std.specs.Char.{IsScalar}
use Rattle.std.specs.List.{AllByRecursion, list_any}
use Rattle.uca_weights.specs.declared.range.Ideographs.{Ideographs}

-- the code point lies from one to another
abbrev pub is_between : ℕ → ℕ → ℕ → Bool
is_between first last c = nat_le first c && nat_le c last

-- the code point lies in one of the pairs of a first and a last one
abbrev pub in_some : List (ℕ × ℕ) → ℕ → Bool
in_some pairs c = list_any (λ (r : ℕ × ℕ). is_between r.0 r.1 c) pairs

-- 10.1.3: the code points with Unified_Ideograph=True, here a fixed list
abbrev pub unified_ideographs : List (ℕ × ℕ)
unified_ideographs =
    (0x3400, 0x4DBF) ∷ (0x4E00, 0x9FFF)
    ∷ (0xFA0E, 0xFA0F) ∷ (0xFA11, 0xFA11) ∷ (0xFA13, 0xFA14) ∷ (0xFA1F, 0xFA1F) ∷ (0xFA21, 0xFA21) ∷ (0xFA23, 0xFA24) ∷ (0xFA27, 0xFA29)
    ∷ (0x20000, 0x2A6DF) ∷ (0x2A700, 0x2B739) ∷ (0x2B740, 0x2B81D) ∷ (0x2B820, 0x2CEA1) ∷ (0x2CEB0, 0x2EBE0) ∷ (0x2EBF0, 0x2EE5D)
    ∷ (0x30000, 0x3134A) ∷ (0x31350, 0x323AF) ∷ []

unfoldable pub is_listed_ideograph : ℕ → Bool
is_listed_ideograph c = in_some unified_ideographs c

-- the code point lies in one of the further ranges
abbrev pub is_added_ideograph : List Ideographs → ℕ → Bool
is_added_ideograph added c = list_any (λ r. is_between r.first r.last c) added

-- 10.1.3: of the list, or of the further ranges
abbrev pub is_unified_ideograph : List Ideographs → ℕ → Bool
is_unified_ideograph added c = is_listed_ideograph c || is_added_ideograph added c

-- some code point lies in a further range and in a pair of the list
abbrev pub shares_with : Ideographs → ℕ × ℕ → Bool
shares_with r pair = nat_le r.first pair.1 && nat_le pair.0 r.last

-- some code point of a further range is one of the list
abbrev pub repeats_listed : Ideographs → Bool
repeats_listed r = list_any (shares_with r) unified_ideographs

-- a range of code points that are not in the list
pub record IsIdeographs (r : Ideographs) : Type 0 where
  pub first : IsScalar r.first
  pub last : IsScalar r.last
  pub ordered : r.first ≤ r.last
  pub unlisted : repeats_listed r ≡ false

-- each range ends below those after it
abbrev pub AreApart : List Ideographs → Type 0
AreApart [] = Unit {0}
AreApart (r ∷ rs) = AllByRecursion (λ s. r.last < s.first) rs × AreApart rs

-- further ranges that can be in one table together, by their first code points
pub record AreIdeographs (added : List Ideographs) : Type 0 where
  pub each : AllByRecursion IsIdeographs added
  pub apart : AreApart added
