use Rattle.std.proofs.Common.{◌≡◌, ℕ, ◌+◌, ◌-◌, ◌≤◌, length}
use Rattle.std.specs.List.{AllByRecursion}
use Rattle.uca_tailor.specs.Copy.{item_entries}
use Rattle.uca_tailor.specs.Counting.{AreInOrder}
use Rattle.uca_tailor.specs.Counts.{count_in, AreCapped}
use Rattle.uca_tailor.specs.Renumbered.{IsItem}
use Rattle.uca_tailor.proofs.counting.add_items.Given as goal

abbrev pub invariant-loop-item : goal.invariant-loop-item
invariant-loop-item l = record {
  can : (goal.iterator-loop-item).can_next l.item-iterator;
  finite : (goal.iterator-loop-item).is_finite l.item-iterator;
  size : length l.counts ≡ length l.fn.counts;
  order : AreInOrder l.items.entries;
  entered : AllByRecursion (λ i. IsItem l.moves i.1) l.item-iterator;
  left : (x : ℕ) → count_in l.level x (item_entries l.moves l.item-iterator) ≤ count_in l.level x (item_entries l.moves l.items.entries);
  capped : (n : ℕ → ℕ) → AreCapped l.fn.counts n → AreCapped l.counts (λ x. n x + (count_in l.level x (item_entries l.moves l.items.entries) - count_in l.level x (item_entries l.moves l.item-iterator)));
}
