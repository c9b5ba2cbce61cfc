-- Variable weighting (UTS #10, section 4, Variable Weighting).
use Rattle.std.specs.Prelude.{ℕ, Bool, false, ◌==◌, ◌||◌, ◌&&◌, List, [], ◌∷◌, ◌++◌, reverse, find, if◌then◌else◌}
use Rattle.std.specs.Option.{option_map_or}
use Rattle.uca_weights.specs.declared.element.Element.{Element}
use Rattle.uca_weights.specs.declared.settings.Variable.{Variable}
use Rattle.uca_weights.specs.declared.settings.Variable.TheVariants.{NonIgnorable, Blanked, Shifted}
use Rattle.uca_weights.specs.Element.{has_primary, is_variable, is_completely_ignorable}

-- 4: the place after these elements is after a variable, where the nearest of them that has a primary weight is variable
abbrev pub is_after_variable : List Element → Bool
is_after_variable before = option_map_or is_variable (find has_primary (reverse before)) false

-- the weights as they are in the table, with this one at the fourth level
abbrev pub unchanged : Element → ℕ → List ℕ
unchanged e fourth = e.l1 ∷ e.l2 ∷ e.l3 ∷ fourth ∷ []

-- nothing at the first three levels
abbrev pub ignored : ℕ → List ℕ
ignored fourth = 0 ∷ 0 ∷ 0 ∷ fourth ∷ []

-- 4, the table of variable weighting: the four weights of an element, by whether it is after a variable
abbrev pub weights : Variable → Bool → Element → List ℕ
weights NonIgnorable after e = unchanged e 0
weights Blanked after e = if is_variable e || (e.l1 == 0 && after) then ignored 0 else unchanged e 0
weights Shifted after e =
    if is_completely_ignorable e then ignored 0
    else if is_variable e then ignored e.l1
    else if e.l1 == 0 && after then ignored 0
    else unchanged e 0xffff

-- 4: the weights of elements that follow these
abbrev pub weighted_after : Variable → List Element → List Element → List (List ℕ)
weighted_after v before [] = []
weighted_after v before (e ∷ es) = weights v (is_after_variable before) e ∷ weighted_after v (before ++ e ∷ []) es

-- 4: the weights of each element of a list
abbrev pub weighted : Variable → List Element → List (List ℕ)
weighted v es = weighted_after v [] es
