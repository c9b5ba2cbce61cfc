use Rattle.std.proofs.Common.{◌≡◌, ◌++◌, map}
use Rattle.uca_tailor.specs.Copy.{entered_item}
use Rattle.uca_tailor.proofs.merging.in_order.Given as goal

abbrev pub invariant-loop-item : goal.invariant-loop-item
invariant-loop-item l = record {
  can : (goal.iterator-loop-item).can_next l.item-iterator;
  finite : (goal.iterator-loop-item).is_finite l.item-iterator;
  all : map entered_item l.sorted.items ++ l.item-iterator ≡ l.items.entries;
}
