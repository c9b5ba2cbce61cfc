use Rattle.uca_key.proofs.Common.{ap₂, ◌≡◌, ◌^◌, ◌<◌, ◌++◌, ℕ, List, length, sym, ap, ◌∙◌, arith, append_assoc, take-append-drop, Element, weighted, level_weights, primary_level, state_of, all_own}
use Rattle.uca_key.proofs.PlacingLemmas.{IsPutting-more, IsPutting-size}
use Rattle.uca_key.proofs.WeighingLemmas.{first_weights-own, own_weights-both}
use Rattle.uca_key.proofs.weight_bytes.put_elements.Goals as goal

pub pieces-preserved : goal.pieces-preserved
pieces-preserved c =
    let i = c.pieces.invariant in let v = c.args.v in
    let left : List Element = c.pieces.left.now in
    let piece : List Element = c.split_at.result.0.now in let rest : List Element = c.split_at.result.1.now in
    let parts : left ≡ piece ++ rest = sym (ap₂ (λ a b. a ++ b) c.split_at.ensures.front c.split_at.ensures.back ∙ take-append-drop c.min.result left) in
    record {
      window = c.put_weights-all.ensures.window;
      bytes = c.put_weights-all.auto.key ∙ i.bytes;
      putting = λ at front whole ws h.
          let now = i.putting at front whole ws h in
          let small : length front < 2 ^ 64 = omega (arith, IsPutting-size _ _ _ _ _ _ h, c.requires.size) in
          let coded : List ℕ → List ℕ = primary_level c.args.code.now (state_of c.pieces.state.reach) in
          let own : List Element → List ℕ = λ es. level_weights 1 (all_own v es) in
          let both : own left ++ ws ≡ level_weights 1 (weighted v piece) ++ (own rest ++ ws) =
          ap (λ es. own es ++ ws) parts ∙ ap (λ l. l ++ ws) (own_weights-both v 1 piece rest) ∙ append_assoc (own piece) (own rest) ws ∙ ap (λ l. l ++ (own rest ++ ws)) (sym (first_weights-own v piece)) in
          IsPutting-more _ _ _ _ _ _ now _ _ _ _ small (ap coded both ∙ sym (c.put_weights-all.ensures.bytes (own rest ++ ws))) c.put_bytes.ensures;
    }
