use Rattle.uca_key.proofs.Common.{ap₂, ◌≡◌, ◌^◌, ◌<◌, ◌++◌, ℕ, List, length, sym, ap, ◌∙◌, arith, append_assoc, take-append-drop, map-append, Element, level_weights, common_weight, runs_after, all_own, own_weights}
use Rattle.uca_key.proofs.PlacingLemmas.{IsPutting-more, IsPutting-size}
use Rattle.uca_key.proofs.WeighingLemmas.{level_weights-append}
use Rattle.uca_key.proofs.runs.put_elements.Goals as goal

pub pieces-preserved : goal.pieces-preserved
pieces-preserved c =
    let i = c.pieces.invariant in let v = c.args.v in let level : ℕ = c.args.level in
    let left : List Element = c.pieces.left.now in
    let piece : List Element = c.split_at.result.0.now in let rest : List Element = c.split_at.result.1.now in
    let parts : left ≡ piece ++ rest = sym (ap₂ (λ a b. a ++ b) c.split_at.ensures.front c.split_at.ensures.back ∙ take-append-drop c.min.result left) in
    record {
      few = c.pack-packed.ensures.few;
      putting = λ at front whole ws h.
          let now = i.putting at front whole ws h in
          let small : length front < 2 ^ 64 = omega (arith, IsPutting-size _ _ _ _ _ _ h, c.requires.size) in
          let runs : List ℕ → List ℕ = runs_after (common_weight level) c.pieces.state.run in
          let both : all_own v left ++ ws ≡ all_own v piece ++ (all_own v rest ++ ws) =
          ap (λ es. all_own v es ++ ws) parts ∙ ap (λ l. l ++ ws) (map-append (own_weights v) piece rest) ∙ append_assoc (all_own v piece) (all_own v rest) ws in
          let split = ap (λ l. runs (level_weights level l)) both ∙ ap runs (level_weights-append level (all_own v piece) (all_own v rest ++ ws)) ∙ sym (c.pack-packed.ensures.bytes (level_weights level (all_own v rest ++ ws))) in
          IsPutting-more _ _ _ _ _ _ now _ _ _ _ small split c.put_bytes.ensures;
    }
