use Rattle.uca_table.proofs.Common.{◌≡◌, flat_map, list_any, all_elements, is_against}
use Rattle.uca_table.proofs.well_formed.has_element_against.Given as goal

abbrev pub invariant-loop-elements : goal.invariant-loop-elements
invariant-loop-elements l = record {
  can : (goal.iterator-loop-elements).can_next l.elements-iterator;
  finite : (goal.iterator-loop-elements).is_finite l.elements-iterator;
  same : list_any (is_against l.bounds l.condition) (flat_map (λ e. e.1) l.elements-iterator) ≡ list_any (is_against l.bounds l.condition) (all_elements l.t);
}
