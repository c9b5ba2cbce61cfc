use Rattle.uca_key.proofs.Common.{false, Option, IfSome, ℕ, subst, IsAlone}
use Rattle.uca_key.proofs.weight_bytes.put_shorts.Goals as goal

pub put_short-at-requires-clause-short : goal.put_short-at-requires-clause-short
put_short-at-requires-clause-short c some =
    let k = c.args.code.now in let base : ℕ = c.args.before.reach.window.now.base in
    subst (λ (byte : Option ℕ). IfSome byte (IsAlone false k base c.primary_weight-w.result)) c.in-Some.is (c.short_byte.ensures k base (c.bytes-bytes.ensures k c.requires.window) some)
