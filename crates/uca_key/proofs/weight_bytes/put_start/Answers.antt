use Rattle.uca_key.proofs.Common.{◌++◌, List, ℕ, false, drop, take, sym, ap, ◌∙◌, arith, Element, weighted, level_weights, primary_level, state_of}
use Rattle.uca_key.proofs.WeighingLemmas.{primary-one}
use Rattle.uca_key.proofs.weight_bytes.put_start.Goals as goal

pub returns-in-Some-clause-bytes : goal.returns-in-Some-clause-bytes
returns-in-Some-clause-bytes c ws =
    let v = c.args.v in let es : List Element = c.args.elements.now in
    let other : Element = record { starred = false; l1 = 0; l2 = 0; l3 = 0 } in
    let put : List ℕ → List ℕ = λ l. take c.args.before.at c.args.key.now ++ primary_level c.args.code.now (state_of c.args.before.reach) l in
    c.in-Some.ensures.bytes (level_weights 1 (weighted v (drop 1 es)) ++ ws)
    ∙ ap put (sym (primary-one v 0 c.primary_weight.result es other ws (omega (arith, c.if-elements-gt0.true)) c.primary_weight.ensures))
