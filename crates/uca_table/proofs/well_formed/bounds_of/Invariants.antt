use Rattle.uca_table.proofs.Common.{◌≡◌, fold, flat_map, all_elements, bounded, unbounded}
use Rattle.uca_table.proofs.well_formed.bounds_of.Given as goal

abbrev pub invariant-loop-elements : goal.invariant-loop-elements
invariant-loop-elements l = record {
  can : (goal.iterator-loop-elements).can_next l.elements-iterator;
  finite : (goal.iterator-loop-elements).is_finite l.elements-iterator;
  same : fold bounded l.bounds (flat_map (λ e. e.1) l.elements-iterator) ≡ fold bounded unbounded (all_elements l.fn.t);
}
