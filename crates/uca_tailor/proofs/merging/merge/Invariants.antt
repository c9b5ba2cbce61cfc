use Rattle.std.proofs.Common.{◌≤◌, length, map}
use Rattle.std.specs.FinMap.{entries}
use Rattle.uca_tailor.specs.Copy.{entered_item}
use Rattle.uca_tailor.proofs.CopyLemmas.{Merges}
use Rattle.uca_tailor.proofs.merging.merge.Given as goal

abbrev pub invariant-loop-key : goal.invariant-loop-key
invariant-loop-key l = record {
  can : (goal.iterator-loop-key).can_next l.key-iterator;
  finite : (goal.iterator-loop-key).is_finite l.key-iterator;
  within : l.at ≤ length l.items;
  merges : Merges l.merged l.moves (map entered_item l.items) l.at (entries l.fn.t.entries) l.key-iterator;
}
