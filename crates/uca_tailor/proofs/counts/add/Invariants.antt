use Rattle.std.proofs.Common.{◌≡◌, ℕ, ◌+◌, take, length}
use Rattle.uca_tailor.specs.Counts.{count_at, Reach}
use Rattle.uca_tailor.proofs.counts.add.Given as goal

abbrev pub invariant-loop-element : goal.invariant-loop-element
invariant-loop-element l = record {
  size : length l.counts ≡ length l.fn.counts;
  reach : (n : ℕ → ℕ) → Reach l.fn.counts n → Reach l.counts (λ x. n x + count_at l.level x (take l.element-index l.elements));
}
