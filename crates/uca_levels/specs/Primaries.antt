-- The primary weights of elements, one by one (UTS #10, section 4, Variable Weighting).
use Rattle.std.specs.Prelude.{ℕ, if◌then◌else◌, List, ◌∷◌, Option, Some, None}
use Rattle.uca_weights.specs.declared.element.Element.{Element}
use Rattle.uca_weights.specs.declared.settings.Variable.{Variable}
use Rattle.uca_weights.specs.declared.settings.Variable.TheVariants.{NonIgnorable, Blanked, Shifted}
use Rattle.uca_weights.specs.Element.{is_variable}
use Rattle.uca_levels.specs.declared.primaries.Primaries.{Primaries}
use Rattle.uca_levels.specs.Streams.{weight_before}

-- the weight of an element at the first level, whatever comes before it
abbrev pub primary_of : Variable → Element → ℕ
primary_of NonIgnorable e = e.l1
primary_of Blanked e = if is_variable e then 0 else e.l1
primary_of Shifted e = if is_variable e then 0 else e.l1

-- ---- those of a character

-- they come before others
abbrev pub weights_before : Primaries → List ℕ → List ℕ
weights_before w left = w.first ∷ weight_before w.second left

-- the first of them, where there is a character
abbrev pub first_weight : Option Primaries → Option ℕ
first_weight None = None
first_weight (Some w) = Some w.first

-- what comes after the first
abbrev pub after_first : Option Primaries → List ℕ → List ℕ
after_first None left = left
after_first (Some w) left = weight_before w.second left
