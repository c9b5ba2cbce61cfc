use Rattle.std.proofs.Common.{◌≡◌, ◌-◌, ◌≤◌, min, length, drop}
use Rattle.uca_tailor.specs.Shifts.{moved}
use Rattle.uca_tailor.proofs.shifts.Shifts.moved.Given as goal

abbrev pub invariant-loop-at : goal.invariant-loop-at
invariant-loop-at l = record {
  same : min (moved l.level (drop l.at l.self) l.moved) 65535 ≡ min (moved l.level (drop l.after l.self) l.weight) 65535;
  fits : l.moved ≤ 65535;
  within : l.at ≤ length l.self;
}

abbrev pub decreases-loop-at : goal.decreases-loop-at
decreases-loop-at l = length l.self - l.at
