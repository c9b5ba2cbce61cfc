use Rattle.uca_keys.proofs.Common.{◌≡◌, ◌-◌, ◌≤◌, length, take}
use Rattle.uca_keys.proofs.nodes.common_len.Given as goal

abbrev pub invariant-loop-at : goal.invariant-loop-at
invariant-loop-at l = record {
  in_a : l.at ≤ length l.a;
  in_b : l.at ≤ length l.b;
  same : take l.at l.a ≡ take l.at l.b;
}

abbrev pub decreases-loop-at : goal.decreases-loop-at
decreases-loop-at l = length l.a - l.at
