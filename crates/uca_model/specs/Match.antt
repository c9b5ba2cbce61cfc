-- The longest match at the front of a text in NFD (UTS #10, 7.2, step S2.1).
use Rattle.std.specs.Prelude.{ℕ, zero, suc, Bool, true, not, ◌&&◌, nat_le, List, [], ◌∷◌, ◌++◌, length, take, if◌then◌else◌}
use Rattle.std.specs.List.{list_any}
use Rattle.unicode.specs.CanonicalCombiningClass.{canonical_combining_class as ccc}
use Rattle.unicode_normalization.specs.Order.{is_starter}

-- a match: the code points that were taken together, and whether they are a key
pub record Match : Type 0 where
  pub code_points : List ℕ
  pub found : Bool

-- what a step gives: its match, and the text that is left
pub record Step : Type 0 where
  pub matched : Match
  pub rest : List ℕ

-- a key was taken, and this is left
abbrev pub took : List ℕ → List ℕ → Step
took key rest = record { matched = record { code_points = key; found = true }; rest = rest }

-- the greatest number from 1 to n that passes, 0 where none does
abbrev pub greatest : (ℕ → Bool) → ℕ → ℕ
greatest p zero = 0
greatest p (suc n) = if p (suc n) then suc n else greatest p n

-- the length of the longest initial substring that is a key, 0 where none is
abbrev pub longest_match_len : (List ℕ → Bool) → List ℕ → ℕ
longest_match_len is_key xs = greatest (λ n. is_key (take n xs)) (length xs)

-- S2.1: the longest initial substring that is a key
abbrev pub longest_match : (List ℕ → Bool) → List ℕ → List ℕ
longest_match is_key xs = take (longest_match_len is_key xs) xs

-- S2.1.2: between S and C there is a nonstarter whose combining class is not below that of C
abbrev pub is_blocked : List ℕ → ℕ → Bool
is_blocked between c = list_any (λ b. nat_le (ccc c) (ccc b)) between

-- S2.1.1 to S2.1.3: each nonstarter after S in turn is taken where no nonstarter that was passed over blocks it, and it makes a key with S
unfoldable pub discontiguous_match : (List ℕ → Bool) → List ℕ → List ℕ → List ℕ → Step
discontiguous_match is_key s passed [] = took s passed
discontiguous_match is_key s passed (c ∷ cs) =
    let taken = discontiguous_match is_key (s ++ c ∷ []) passed cs in
    let kept = discontiguous_match is_key s (passed ++ c ∷ []) cs in
    if is_starter c then took s (passed ++ c ∷ cs)
    else if not (is_blocked passed c) && is_key (s ++ c ∷ []) then taken
    else kept
