use Rattle.std.proofs.Common.{◌≡◌, ℕ, ◌<◌, ◌≤◌, max, drop, slice_index_or}
use Rattle.std.specs.Char.{IsScalar}
use Rattle.uca_model.specs.SafeText.{longest_run, longest_run_after}
use Rattle.uca_tailor.proofs.strings.longest_run.Given as goal

abbrev pub invariant-loop-c : goal.invariant-loop-c
invariant-loop-c l = record {
  within : l.run ≤ l.c-index;
  scalars : (k : ℕ) (d : ℕ) → k < l.c-index → IsScalar (slice_index_or l.points k d);
  so_far : max l.longest (longest_run_after l.run (drop l.c-index l.points)) ≡ longest_run l.points;
}
