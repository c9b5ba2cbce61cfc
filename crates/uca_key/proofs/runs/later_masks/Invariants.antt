use Rattle.uca_key.proofs.Common.{◌≡◌, ◌%◌, ◌≤◌, drop, length, map, mask_l, Variable, is_blank, is_other}
use Rattle.uca_key.proofs.runs.later_masks.Given as goal

-- the masks of the blocks that were looked at, from the last
abbrev pub invariant-each : goal.invariant-each
invariant-each l = record {
  within : l.n ≤ length l.elements;
  whole : l.n % 16 ≡ 0;
  second : (v : Variable) → l.second ≡ mask_l (map (is_other v 2) (drop l.n l.elements));
  third : (v : Variable) → l.third ≡ mask_l (map (is_other v 3) (drop l.n l.elements));
  none : l.none ≡ mask_l (map (is_blank l.asked) (drop l.n l.elements));
}

abbrev pub decreases-each : goal.decreases-each
decreases-each l = l.n
