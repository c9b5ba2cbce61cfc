use Rattle.uca_key.proofs.Common.{◌≡◌, [], ◌∷◌, ◌++◌, refl, ap, level_weights, first_left, weights_left}
use Rattle.uca_key.proofs.PlacingLemmas.{IsPutting-more, IsPutting-ends}
use Rattle.uca_key.proofs.weight_bytes.put_again.Goals as goal

pub returns-then-n-eq0 : goal.returns-then-n-eq0
returns-then-n-eq0 c =
    let none : weights_left c.each.left ≡ [] = c.read-n.ensures.end c.if-n-eq0.true in
    let left : first_left c.args.code.now c.each.state (level_weights 1 (weights_left c.each.left)) ≡ (0 ∷ []) ++ [] = ap (λ ws. first_left c.args.code.now c.each.state (level_weights 1 ws)) none in
    IsPutting-ends _ _ _ _ _ _ (IsPutting-more _ _ _ _ _ _ c.each.invariant.putting _ _ (0 ∷ []) [] c.requires.size left c.put_bytes.ensures) refl
