-- Gaps that are made at one level one after the other, and how far they move a weight together.
use Rattle.std.specs.Prelude.{◌≡◌, ℕ, ◌+◌, ◌-◌, ◌%◌, ◌≤◌, min, ◌==◌, nat_lt, nat_le, List, [], ◌∷◌, length, take, drop, if◌then◌else◌}
use Rattle.std.specs.List.{AllByRecursion}
use Rattle.uca_model.specs.Gap.{weight_with_gap}

-- a weight of a level after a gap was made above each of these weights, one after the other
abbrev pub moved : ℕ → List ℕ → ℕ → ℕ
moved level [] x = x
moved level (w ∷ ws) x = moved level ws (weight_with_gap level w x)

-- A gap moves exactly those weights that were above some bound at first. So all gaps together are the list of these bounds.

-- how many bounds are below a weight
abbrev pub count_below : ℕ → List ℕ → ℕ
count_below x [] = 0
count_below x (b ∷ bs) = (if nat_lt b x then 1 else 0) + count_below x bs

-- a weight moves by as many as there are bounds below it; at level 1 an implicit one stays, and none moves beyond the lowest of these
abbrev pub moved_at_once : ℕ → List ℕ → ℕ → ℕ
moved_at_once level bounds x = if level == 1 then (if nat_le 0x8000 x then x else min 0x8000 (x + count_below x bounds)) else x + count_below x bounds

-- the bounds with that of one more gap: above w now, so above w - i at first, if i bounds are below that
abbrev pub bounds_with : ℕ → List ℕ → List ℕ
bounds_with w [] = w ∷ []
bounds_with w (b ∷ bs) = if nat_lt b w then b ∷ bounds_with (w - 1) bs else w ∷ b ∷ bs

-- no bound is below those before it
abbrev pub Rise : List ℕ → Type 0
Rise [] = Unit {0}
Rise (b ∷ bs) = AllByRecursion (λ c. b ≤ c) bs × Rise bs

-- the bounds of gaps that were made one after the other
pub record AreBounds (bounds ws : List ℕ) : Type 0 where
  pub rise : Rise bounds
  pub same : (level x : ℕ) → moved_at_once level bounds x ≡ moved level ws x

-- the bounds of this many gaps in a row, for each such block by itself
pub record AreBlocks (size : ℕ) (bounds ws : List ℕ) : Type 0 where
  pub same_length : length bounds ≡ length ws
  pub blocks : (at : ℕ) → at % size ≡ 0 → AreBounds (take size (drop at bounds)) (take size (drop at ws))
