-- What a weigher carries from one element to the next (UTS #10, section 4, Variable Weighting).
use Rattle.std.specs.Prelude.{◌≡◌, ℕ, Bool, List, [], ◌∷◌, if◌then◌else◌}
use Rattle.uca_weights.specs.declared.element.Element.{Element}
use Rattle.uca_weights.specs.declared.settings.Variable.{Variable}
use Rattle.uca_weights.specs.Element.{has_primary, is_variable}
use Rattle.uca_weights.specs.VariableWeighting.{is_after_variable, weights}

-- the option that it weighs by, and whether the place that comes next is after a variable
pub record WeigherState : Type 0 where
  pub weighting : Variable
  pub after : Bool

-- 4: whether the place after an element is after a variable, by whether the place of the element is
abbrev pub after_element : Bool → Element → Bool
after_element after e = if has_primary e then is_variable e else after

-- 4: the four weights of each element of a list that it is given from now on
abbrev pub weighted_from : WeigherState → List Element → List (List ℕ)
weighted_from w [] = []
weighted_from w (e ∷ es) = weights w.weighting w.after e ∷ weighted_from (record w { after = after_element w.after e }) es

-- it weighs by this option, and has seen these elements so far
pub record HasSeen (v : Variable) (w : WeigherState) (seen : List Element) : Type 0 where
  pub weighting : w.weighting ≡ v
  pub after : w.after ≡ is_after_variable seen
