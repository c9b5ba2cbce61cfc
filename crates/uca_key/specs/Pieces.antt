-- The elements of a text, weighed, and held in room that is lent.
use Rattle.std.specs.Prelude.{◌≡◌, ◌≤◌, ℕ, List, length, take, chars}
use Rattle.std.specs.Option.{ForSome}
use Rattle.unicode_normalization.specs.Forms.{nfd}
use Rattle.uca_weights.specs.declared.element.Element.{Element}
use Rattle.uca_weights.specs.VariableWeighting.{weighted}
use Rattle.uca_weights.specs.Weigher.{weighted_from}
use Rattle.uca_model.specs.CollationElements.{elements}
use Rattle.uca_match.specs.TextLeft.{elements_left}
use Rattle.uca_key.specs.Weighing.{all_own}
use Rattle.uca_key.specs.declared.pieces.TextReading.{TextReading}
use Rattle.uca_key.specs.declared.pieces.WeighedElements.{WeighedElements}

-- the elements of the text
abbrev pub elements_of : TextReading → List Element
elements_of r = elements r.table.now (nfd (chars r.text.now))

-- the four weights of each of them
abbrev pub weights_of : TextReading → List (List ℕ)
weights_of r = weighted r.settings.weighting (elements_of r)

-- the room has all elements of the text, weighed, where the reading says how many they are
abbrev pub HoldsWeights : TextReading → List Element → Type 0
HoldsWeights r room = ForSome r.held (λ n. (n ≤ length room) × (all_own r.settings.weighting (take n room) ≡ weights_of r))

-- the weights of the elements that are left
abbrev pub weights_left : WeighedElements → List (List ℕ)
weights_left e = weighted_from e.weigher (elements_left e.elements)
