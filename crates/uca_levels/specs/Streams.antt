-- The weights of a level that are left, in a stream of them.
use Rattle.std.specs.Prelude.{◌≡◌, ℕ, ◌-◌, not, ◌==◌, if◌then◌else◌, List, ◌∷◌, ◌++◌, Option, Some, None, map, filter, slice_index, chars, take, drop}
use Rattle.unicode_normalization.specs.Forms.{nfd}
use Rattle.uca_weights.specs.declared.element.Element.{Element}
use Rattle.uca_weights.specs.Weigher.{WeigherState, weighted_from}
use Rattle.uca_model.specs.CollationElements.{elements}
use Rattle.uca_levels.specs.declared.cell_weights.CellWeights.{CellWeights}
use Rattle.uca_levels.specs.declared.joined_weights.JoinedWeights.{JoinedWeights}

-- the weights of a level that are not zero, of elements that are weighed from a state on
abbrev pub weights_from : WeigherState → ℕ → List Element → List ℕ
weights_from w level es = filter (λ weight. not (weight == 0)) (map (λ ws. slice_index ws (level - 1)) (weighted_from w es))

-- a weight before others, where it is not zero
abbrev pub weight_before : ℕ → List ℕ → List ℕ
weight_before weight left = if not (weight == 0) then weight ∷ left else left

-- a weight that was given, if there is one, before those that are left
abbrev pub given_before : Option ℕ → List ℕ → List ℕ
given_before None left = left
given_before (Some weight) left = weight ∷ left

-- ---- of a text in memory, by its characters

-- the elements that wait, and then those of the rest of the text
abbrev pub cell_elements_left : CellWeights → List Element
cell_elements_left w = w.waiting.now ++ elements w.table.now (nfd (chars w.rest.now))

-- their weights
abbrev pub cell_weights_left : CellWeights → List ℕ
cell_weights_left w = weights_from w.weigher w.level (cell_elements_left w)

-- the table and the level are the same
pub record SameKind (old new : CellWeights) : Type 0 where
  pub table : new.table.now ≡ old.table.now
  pub level : new.level ≡ old.level

-- ---- also of characters that join each other

-- the elements that are held and were not given yet
abbrev pub held_elements : JoinedWeights → List Element
held_elements w = drop w.at (take w.end w.held)

-- the weights of these, and of the rest of the text
abbrev pub held_back : JoinedWeights → List ℕ
held_back w = weights_from w.cells.weigher w.cells.level (held_elements w ++ cell_elements_left w.cells)

-- the same after a weight that was given before
abbrev pub weights_left : JoinedWeights → List ℕ
weights_left w = given_before w.given (held_back w)
