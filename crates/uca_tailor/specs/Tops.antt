-- Upper bounds of the weights of a table.
use Rattle.std.specs.Prelude.{ℕ, ◌≤◌, min, ◌==◌, List, if◌then◌else◌}
use Rattle.uca_weights.specs.declared.element.Element.{Element}
use Rattle.uca_model.specs.Gap.{weight_with_gap}
use Rattle.uca_tailor.specs.declared.tops.Tops.{Tops}
use Rattle.uca_tailor.specs.Renumbered.{IsBelow}

-- with a gap above w at a level
abbrev pub raised : ℕ → ℕ → Tops → Tops
raised level w t = record {
  first = if level == 1 then min (weight_with_gap 1 w t.first) 65535 else t.first;
  second = if level == 2 then min (weight_with_gap 2 w t.second) 65535 else t.second;
  third = if level == 3 then min (weight_with_gap 3 w t.third) 65535 else t.third;
}

-- no weight of the elements is above them
pub record HoldsElements (t : Tops) (es : List Element) : Type 0 where
  pub first : IsBelow 1 t.first es
  pub second : IsBelow 2 t.second es
  pub third : IsBelow 3 t.third es

-- at each level at most as great
pub record IsAtMost (t u : Tops) : Type 0 where
  pub first : t.first ≤ u.first
  pub second : t.second ≤ u.second
  pub third : t.third ≤ u.third
