use Rattle.std.proofs.Common.{◌≡◌, ℕ, ◌+◌, ◌-◌, ◌≤◌, length}
use Rattle.std.specs.FinMap.{entries}
use Rattle.uca_tailor.specs.Counting.{count_shown}
use Rattle.uca_tailor.specs.Counts.{AreCapped}
use Rattle.uca_tailor.proofs.counting.add_entries.Given as goal

abbrev pub invariant-loop-key : goal.invariant-loop-key
invariant-loop-key l = record {
  can : (goal.iterator-loop-key).can_next l.key-iterator;
  finite : (goal.iterator-loop-key).is_finite l.key-iterator;
  size : length l.counts ≡ length l.fn.counts;
  left : (x : ℕ) → count_shown l.level x l.moves l.items.entries l.key-iterator ≤ count_shown l.level x l.moves l.items.entries (entries l.t.entries);
  capped : (n : ℕ → ℕ) → AreCapped l.fn.counts n → AreCapped l.counts (λ x. n x + (count_shown l.level x l.moves l.items.entries (entries l.t.entries) - count_shown l.level x l.moves l.items.entries l.key-iterator));
}
