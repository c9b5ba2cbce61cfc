use Rattle.std.proofs.Common.{◌≡◌, ℕ, ◌+◌, length, map, take}
use Rattle.uca_tailor.specs.Counts.{count_at, AreCapped}
use Rattle.uca_tailor.specs.Moves.{cut, moved_element}
use Rattle.uca_tailor.proofs.counting.add_moved.Given as goal

abbrev pub invariant-loop-element : goal.invariant-loop-element
invariant-loop-element l = record {
  size : length l.counts ≡ length l.fn.counts;
  capped : (n : ℕ → ℕ) → AreCapped l.fn.counts n → AreCapped l.counts (λ x. n x + count_at l.level x (take l.element-index (map cut (map (moved_element l.moves l.after) l.elements))));
}
