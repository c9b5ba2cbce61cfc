use Rattle.uca_key.proofs.Common.{◌<◌, ◌++◌, List, ℕ, [], ap, ◌∙◌, arith, append-nil, length, take, weighted, level_weights, primary_level, start}
use Rattle.uca_key.proofs.PlacingLemmas.{PutsAt-fitted}
use Rattle.uca_key.proofs.WeighingLemmas.{first_weights-own}
use Rattle.uca_key.proofs.weight_bytes.put_whole.Goals as goal

pub returns : goal.returns
returns c =
    let k = c.args.code.now in let placed = c.put_weights-all.ensures in
    let weights : List ℕ = level_weights 1 (weighted c.args.v c.args.elements.now) in
    let within : c.put_weights-all.result.placed.at < length c.args.out.now = omega (arith, c.has_room_for_end.ensures c.if-not-has_room_for_end.false, placed.within) in
    let whole = ap (λ p. primary_level k p (weights ++ [])) c.first_reach.ensures.state ∙ ap (primary_level k (start k)) (append-nil weights ∙ first_weights-own c.args.v c.args.elements.now) in
    PutsAt-fitted _ _ 0 _ _ _ c.put_weights-all.auto.key c.requires.size within placed.stays (placed.bytes [] ∙ ap (λ bytes. take c.args.at c.args.out.now ++ bytes) whole)
