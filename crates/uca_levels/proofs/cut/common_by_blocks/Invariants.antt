use Rattle.std.proofs.Common.{◌≡◌, ◌+◌, ◌-◌, ◌≤◌, length, take}
use Rattle.uca_levels.proofs.cut.common_by_blocks.Given as goal

abbrev pub invariant-each : goal.invariant-each
invariant-each l = record {
  in_a : l.at + 8 ≤ length l.a;
  in_b : l.at + 8 ≤ length l.b;
  same : take l.at l.a ≡ take l.at l.b;
}

abbrev pub decreases-each : goal.decreases-each
decreases-each l = l.last - l.at
