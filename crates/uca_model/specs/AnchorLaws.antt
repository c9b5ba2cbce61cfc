-- Laws of the place of an item, each of which is the contract of a public function with no body.
use Rattle.std.specs.Prelude.{◌≡◌, ◌≢◌, ℕ, ◌+◌, ◌≤◌, ◌<◌, List, [], ◌∷◌, ◌++◌, map, Some}
use Rattle.std.specs.List.{AllByRecursion}
use Rattle.uca_weights.specs.declared.element.Element.{Element}
use Rattle.uca_weights.specs.Element.{weight}
use Rattle.uca_model.specs.Table.{ElementTable}
use Rattle.uca_model.specs.Gap.{weight_with_gap, with_gap}
use Rattle.uca_model.specs.Tailoring.{Anchor, anchor_of, placed_next_to}

-- elements up to the last one that has a weight at the level; those after it are dropped
pub record EndsInAWeight (level : ℕ) (es : List Element) (a : Anchor) : Type 0 where
  pub dropped : List Element
  pub parts : es ≡ a.before ++ a.last ∷ dropped
  pub some : weight level a.last ≢ 0
  pub none : AllByRecursion (λ e. weight level e ≡ 0) dropped

-- so does each anchor
abbrev pub AnchorsEndInAWeight : Type 0
AnchorsEndInAWeight = (level : ℕ) (es : List Element) (a : Anchor) → anchor_of level es ≡ Some a → EndsInAWeight level es a

-- an item has the weights of the elements before the last one of its anchor, moved for the gap, and then the raised weight of that one alone ..
pub record LiesInTheGap (level w : ℕ) (before es : List Element) : Type 0 where
  pub weights : map (weight level) es ≡ map (λ e. weight_with_gap level w (weight level e)) before ++ (w + 1) ∷ []
  -- .. which no weight from before has once the gap is made
  pub alone : (level ≡ 1 → w < 0x7FFF) → (e : Element) → weight level (with_gap level w e) ≢ w + 1

-- so does each item next to an anchor
abbrev pub ItemsLieInTheGap : Type 0
ItemsLieInTheGap = (level : ℕ) (t : ElementTable) (a : Anchor) → 1 ≤ level → level ≤ 3 → LiesInTheGap level (weight level a.last) a.before (placed_next_to level t a).base
