-- The levels at which a relation orders, and what the gap and the raise do to the weights of an element at each.
use Rattle.std.proofs.Common.{◌≡◌, ℕ, suc, zero, ◌+◌, ◌≤◌, ◌<◌, List, refl, subst, arith}
use Rattle.uca_weights.specs.declared.element.Element.{Element}
use Rattle.uca_weights.specs.Element.{weight}
use Rattle.uca_model.specs.Table.{ElementTable}
use Rattle.uca_model.specs.Rules.{Operator, first, second, third, same}
use Rattle.uca_model.specs.Gap.{weight_with_gap, with_gap}
use Rattle.uca_model.specs.Tailoring.{raised, placed_after, placed}
use Rattle.uca_model.proofs.GapAtWeights.{raised-first, raised-second, raised-third}
use Rattle.uca_tailor.specs.TailoringLaws.{op_level}

-- levels 1 to 3
pub data IsLevel : ℕ → Type 0 where
  level_one : IsLevel 1
  level_two : IsLevel 2
  level_three : IsLevel 3

pub level_most : (m : ℕ) → IsLevel m → m ≤ 3
level_most m level_one = omega arith
level_most m level_two = omega arith
level_most m level_three = omega arith

pub level_of : (j : ℕ) → 1 ≤ j → j ≤ 3 → IsLevel j
level_of zero low top = absurd (omega arith)
level_of (suc zero) low top = level_one
level_of (suc (suc zero)) low top = level_two
level_of (suc (suc (suc zero))) low top = level_three
level_of (suc (suc (suc (suc n)))) low top = absurd (omega arith)

-- a level, and one below it
pub data IsBelow : ℕ → ℕ → Type 0 where
  first_of_second : IsBelow 1 2
  first_of_third : IsBelow 1 3
  second_of_third : IsBelow 2 3

pub is_below : (j m : ℕ) → IsLevel m → 1 ≤ j → j < m → IsBelow j m
is_below zero m l low less = absurd (omega arith)
is_below (suc j) m level_one low less = absurd (omega arith)
is_below (suc zero) m level_two low less = first_of_second
is_below (suc (suc j)) m level_two low less = absurd (omega arith)
is_below (suc zero) m level_three low less = first_of_third
is_below (suc (suc zero)) m level_three low less = second_of_third
is_below (suc (suc (suc j))) m level_three low less = absurd (omega arith)

-- the operator of a level places an item after the last weight of that level
pub record PlacesAt (level : ℕ) (op : Operator) : Type 0 where
  pub level_is : IsLevel level
  pub placed_is : (t : ElementTable) (anchor : List Element) → placed t anchor op ≡ placed_after level t anchor

pub places_at : (level : ℕ) (op : Operator) → op_level op ≡ level → 1 ≤ level → PlacesAt level op
places_at level first is some = subst (λ k. PlacesAt k first) is (record { level_is = level_one; placed_is = λ t a. refl })
places_at level second is some = subst (λ k. PlacesAt k second) is (record { level_is = level_two; placed_is = λ t a. refl })
places_at level third is some = subst (λ k. PlacesAt k third) is (record { level_is = level_three; placed_is = λ t a. refl })
places_at level same is some = let none : 0 ≡ level = is in absurd (omega arith)

-- ## The weights of an element

-- at the level: moved for the gap, and one more
pub weight-with_gap : (m w : ℕ) (e : Element) → IsLevel m → weight m (with_gap m w e) ≡ weight_with_gap m w (weight m e)
weight-with_gap m w e level_one = refl
weight-with_gap m w e level_two = refl
weight-with_gap m w e level_three = refl

pub weight-raised : (m : ℕ) (e : Element) → IsLevel m → weight m (raised m e) ≡ weight m e + 1
weight-raised m e level_one = raised-first e
weight-raised m e level_two = raised-second e
weight-raised m e level_three = raised-third e

-- below the level: as they were
pub weight-shifted_above : (j m w : ℕ) (e : Element) → IsBelow j m → weight j (with_gap m w e) ≡ weight j e
weight-shifted_above j m w e first_of_second = refl
weight-shifted_above j m w e first_of_third = refl
weight-shifted_above j m w e second_of_third = refl

pub weight-raised_above : (j m : ℕ) (e : Element) → IsBelow j m → weight j (raised m e) ≡ weight j e
weight-raised_above j m e first_of_second = refl
weight-raised_above j m e first_of_third = refl
weight-raised_above j m e second_of_third = refl
