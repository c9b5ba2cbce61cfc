use Rattle.uca_key.proofs.Common.{ℕ, List, subst, sym, AreShort}
use Rattle.uca_key.proofs.windows.window_at.Goals as goal

pub put_all-requires-clause-short : goal.put_all-requires-clause-short
put_all-requires-clause-short c = subst (λ (bytes : List ℕ). AreShort c.args.codes.now c.args.base bytes) (sym c.as_mut_slice.ensures.value) (c.in_ok-bytes.ensures.short c.args.codes.now c.args.base)
