use Rattle.uca_table.proofs.Common.{ℕ, ◌<◌, slice_index_or, IsScalar}
use Rattle.uca_table.proofs.builder.show_key.Given as goal

abbrev pub invariant-loop-c : goal.invariant-loop-c
invariant-loop-c l = (k : ℕ) (d : ℕ) → k < l.c-index → IsScalar (slice_index_or l.key k d)
