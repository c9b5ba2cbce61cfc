use Rattle.uca_key.proofs.Common.{◌≡◌, ◌≤◌, min, drop, length, map, take, mask_l, is_other}
use Rattle.uca_key.proofs.runs.others_of.Given as goal

-- the mask of the elements that were looked at, from the last
abbrev pub invariant-each : goal.invariant-each
invariant-each l = record {
  within : l.n ≤ min (length l.elements) 64;
  mask : l.others ≡ mask_l (map (is_other l.v l.level) (drop l.n (take 64 l.elements)));
}

abbrev pub decreases-each : goal.decreases-each
decreases-each l = l.n
