use Rattle.uca_key.proofs.Common.{◌++◌, ◌∷◌, List, ℕ, [], ap, ◌∙◌, append-nil, refl, level_weights, primary_level, start, state_of, all_own}
use Rattle.uca_key.proofs.PlacingLemmas.{IsPutting-start, IsPutting-more, IsPutting-ends}
use Rattle.uca_key.proofs.weight_bytes.put_in_pieces.Goals as goal

pub returns : goal.returns
returns c =
    let k = c.args.code.now in let own : List ℕ = level_weights 1 (all_own c.args.v c.args.elements.now) in
    let whole = primary_level k (start k) own in
    let begun = IsPutting-start _ _ _ (primary_level k (state_of c.first_reach.result) (own ++ [])) c.ranges.at.fits (ap (λ p. primary_level k p (own ++ [])) c.first_reach.ensures.state ∙ ap (primary_level k (start k)) (append-nil own)) in
    let put = c.put_elements-placed.ensures.bytes c.args.at c.args.out.now whole [] begun in
    IsPutting-ends _ _ _ _ _ _ (IsPutting-more _ _ _ _ _ _ put _ _ (0 ∷ []) [] c.requires.size refl c.put_bytes.ensures) refl
