-- Elements whose variable weighting was carried out where they lie (UTS #10, section 4): each says its weights without those before it.
use Rattle.std.specs.Prelude.{ℕ, List, [], ◌∷◌, map, if◌then◌else◌}
use Rattle.uca_weights.specs.declared.element.Element.{Element}
use Rattle.uca_weights.specs.declared.settings.Variable.{Variable}
use Rattle.uca_weights.specs.declared.settings.Variable.TheVariants.{NonIgnorable, Blanked, Shifted}
use Rattle.uca_weights.specs.Element.{is_completely_ignorable}
use Rattle.uca_levels.specs.Primaries.{primary_of}

-- the weight at the fourth level of an element that is marked only where it is variable, and has no second and third weight where it is hidden
abbrev pub fourth_of : Variable → Element → ℕ
fourth_of NonIgnorable e = 0
fourth_of Blanked e = 0
fourth_of Shifted e = if e.starred then e.l1 else if is_completely_ignorable e then 0 else 0xffff

-- its four weights
abbrev pub own_weights : Variable → Element → List ℕ
own_weights v e = primary_of v e ∷ e.l2 ∷ e.l3 ∷ fourth_of v e ∷ []

-- those of each of some elements
abbrev pub all_own : Variable → List Element → List (List ℕ)
all_own v es = map (own_weights v) es
