-- Matches that are listed one after the other.
use Rattle.std.specs.Prelude.{◌≡◌, List, map, flat_map}
use Rattle.uca_model.specs.CollationElements.{elements_or_implicit}
use Rattle.uca_model.specs.Match.{Match}
use Rattle.uca_model.specs.Table.{ElementTable}
use Rattle.uca_handle.specs.Matches.{element_form, match_form, match_points}
use Rattle.uca_handle.specs.declared.matches.Listed.{Listed}

-- these matches are listed, with their code points and their elements
pub record Lists (t : ElementTable) (ms : List Match) (l : Listed) : Type 0 where
  pub matches : l.matches.items ≡ map (match_form t) ms
  pub points : l.points.items ≡ match_points ms
  pub elements : l.elements.items ≡ map element_form (flat_map (λ (m : Match). elements_or_implicit t m.code_points) ms)
