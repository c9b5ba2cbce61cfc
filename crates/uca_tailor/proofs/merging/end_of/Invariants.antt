use Rattle.std.proofs.Common.{◌≡◌, ◌≤◌, ◌+◌, ◌-◌, drop, length, map}
use Rattle.std.specs.List.{prefix_len}
use Rattle.uca_tailor.specs.Copy.{entered_item, is_up_to}
use Rattle.uca_tailor.proofs.merging.end_of.Given as goal

abbrev pub invariant-loop-at : goal.invariant-loop-at
invariant-loop-at l = record {
  ordered : l.from ≤ l.at;
  within : l.at ≤ length l.items;
  place : l.from + prefix_len (is_up_to l.key) (drop l.from (map entered_item l.items)) ≡ l.at + prefix_len (is_up_to l.key) (drop l.at (map entered_item l.items));
}

abbrev pub decreases-loop-at : goal.decreases-loop-at
decreases-loop-at l = length l.items - l.at
