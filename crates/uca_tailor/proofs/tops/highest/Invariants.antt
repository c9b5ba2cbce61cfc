use Rattle.std.proofs.Common.{◌≤◌, take}
use Rattle.uca_tailor.specs.Renumbered.{IsBelow}
use Rattle.uca_tailor.proofs.tops.highest.Given as goal

abbrev pub invariant-loop-element : goal.invariant-loop-element
invariant-loop-element l = record {
  below : IsBelow l.level l.highest (take l.element-index l.elements);
  more : l.top ≤ l.highest;
}
