use Rattle.uca_key.proofs.Common.{ap₂, ◌≡◌, ◌≤◌, ℕ, List, ◌++◌, length, take, subst, sym, ap, ◌∙◌, arith, append_assoc, take-append-drop, Element, Variable, level_weights, common_weight, runs_after, AreMarked, all_own}
use Rattle.uca_key.proofs.MaskLemmas.{marked-front}
use Rattle.uca_key.proofs.PlacingLemmas.{beyond-more}
use Rattle.uca_key.proofs.WeighingLemmas.{own_weights-both}
use Rattle.uca_key.proofs.runs.pack_whole.Goals as goal

pub pack_masked-packed-requires-clause-marked : goal.pack_masked-packed-requires-clause-marked
pack_masked-packed-requires-clause-marked c =
    let v : Variable = c.args.v in let level : ℕ = c.args.level in let left : List Element = c.pieces.left.now in
    let few : c.min.result ≤ 64 = omega (arith, c.min.ensures) in
    subst (AreMarked v level c.pieces.mask) (sym c.split_at.ensures.front) (marked-front v level c.pieces.mask c.min.result 64 left few c.pieces.invariant.marked)

pub returns-then-is_empty-clause-stays : goal.returns-then-is_empty-clause-stays
returns-then-is_empty-clause-stays c = beyond-more _ _ _ _ _ _ c.pieces.invariant.stays c.pack_masked-packed.ensures.stays

pub pieces-preserved : goal.pieces-preserved
pieces-preserved c =
    let v : Variable = c.args.v in let level : ℕ = c.args.level in let i = c.pieces.invariant in
    let packed = c.pack_masked-packed.ensures in
    let left : List Element = c.pieces.left.now in
    let piece : List Element = c.split_at.result.0.now in let rest : List Element = c.split_at.result.1.now in
    let parts : left ≡ piece ++ rest = sym (ap₂ (λ a b. a ++ b) c.split_at.ensures.front c.split_at.ensures.back ∙ take-append-drop c.min.result left) in
    let weights : List Element → List ℕ = λ es. level_weights level (all_own v es) in
    let put : List ℕ → List ℕ = λ l. take c.pieces.packed.at c.pieces.key ++ runs_after (common_weight level) c.pieces.packed.run l in
    let both : (ws : List ℕ) → weights left ++ ws ≡ weights piece ++ (weights rest ++ ws) = λ ws. ap (λ es. weights es ++ ws) parts ∙ ap (λ l. l ++ ws) (own_weights-both v level piece rest) ∙ append_assoc (weights piece) (weights rest) ws in
    record {
      few = packed.few;
      marked = c.marked_by_one-mask.ensures;
      within = omega (arith, packed.within, i.within, ap length parts);
      stays = beyond-more _ _ _ _ _ _ i.stays packed.stays;
      same = λ ws. packed.bytes (weights rest ++ ws) ∙ sym (ap put (both ws)) ∙ i.same ws;
    }
