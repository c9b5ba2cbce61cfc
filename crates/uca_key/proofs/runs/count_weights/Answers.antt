use Rattle.uca_key.proofs.Common.{◌≤◌, ◌%◌, ℕ, count_ones, sym, subst, arith, one_shl}
use Rattle.uca_key.proofs.MaskLemmas.{ones-few}
use Rattle.uca_key.proofs.runs.count_weights.Goals as goal

pub overflow_sub-result : goal.overflow_sub-result
overflow_sub-result c = subst (λ (k : ℕ). count_ones (c.args.blanks % k) ≤ c.args.n) (sym (one_shl c.args.n 64 (omega arith))) (ones-few c.args.blanks c.args.n)
