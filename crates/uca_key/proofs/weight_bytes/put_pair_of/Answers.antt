use Rattle.uca_key.proofs.Common.{◌==◌, ◌≤◌, ◌+◌, false, ◌∷◌, ◌++◌, [], ◌∙◌, List, ℕ, not, length, sym, ap, take, drop, filter, arith, Element, weighted, level_weights, primary_level, state_of}
use Rattle.uca_key.proofs.WeighingLemmas.{primary-one}
use Rattle.uca_key.proofs.weight_bytes.put_pair_of.Goals as goal

pub returns-clause-bytes : goal.returns-clause-bytes
returns-clause-bytes c ws =
    let v = c.args.v in let es : List Element = c.args.elements.now in let from : ℕ = c.args.from in
    let other : Element = record { starred = false; l1 = 0; l2 = 0; l3 = 0 } in
    let put : List ℕ → List ℕ = λ l. take c.args.before.at c.args.key.now ++ primary_level c.args.code.now (state_of c.args.before.reach) l in
    let own : ℕ → List ℕ = λ w. filter (λ (x : ℕ). not (x == 0)) (w ∷ []) in
    let two : from + 2 ≤ length es = omega (arith, c.requires.some, c.if-elements-from-lt2.false) in
    let second = primary-one v (from + 1) c.primary_weight-second.result es other ws (omega (arith, two)) c.primary_weight-second.ensures in
    let first = primary-one v from c.primary_weight-w.result es other ws (omega (arith, two)) c.primary_weight-w.ensures ∙ ap (λ l. own c.primary_weight-w.result ++ l) second in
    ap (λ (n : ℕ). take c.put_implicit.result c.put_implicit.new.key ++ primary_level c.args.code.now (state_of c.args.before.reach) (level_weights 1 (weighted v (drop n es)) ++ ws)) (omega arith)
    ∙ c.put_implicit.ensures.bytes (level_weights 1 (weighted v (drop (from + 1 + 1) es)) ++ ws) ∙ ap put (sym first)
