use Rattle.uca_key.proofs.Common.{◌≡◌, ◌++◌, List, take, drop, Element, weighted_from, all_own}
use Rattle.uca_key.proofs.weighing.weigh_each.Given as goal

-- the elements so far are weighed, and the others are as they were
abbrev pub invariant-loop-n : goal.invariant-loop-n
invariant-loop-n l = record {
  option : l.seen.weighting ≡ l.fn.weigher.weighting;
  rest : drop l.n l.elements ≡ drop l.n l.fn.elements;
  weights : (es : List Element) → weighted_from l.fn.weigher (l.fn.elements ++ es) ≡ all_own l.fn.weigher.weighting (take l.n l.elements) ++ weighted_from l.seen (drop l.n l.fn.elements ++ es);
}
