use Rattle.uca_key.proofs.Common.{◌≡◌, ◌==◌, false, ℕ, ◌+◌, not, List, [], ◌∷◌, ◌++◌, ◌<◌, drop, filter, length, take, subst, sym, ap, ◌∙◌, arith, drop_all, drop-drop, Element, Variable, level_weights, common_weight, runs_after, AreMarked, all_own}
use Rattle.uca_key.proofs.PlacingLemmas.{beyond-more}
use Rattle.uca_key.proofs.MaskLemmas.{blank, marked-after, run-counted}
use Rattle.uca_key.proofs.RunsLemmas.{weights-one}
use Rattle.uca_key.proofs.runs.pack_masked.Goals as goal

-- the run is at the end of what is packed
pub returns-then-n-left-clause-bytes : goal.returns-then-n-left-clause-bytes
returns-then-n-left-clause-bytes c =
    let v : Variable = c.args.v in let level : ℕ = c.args.level in let i = c.runs.invariant in
    let left : List Element = c.runs.left.now in let n : ℕ = length left in let run = c.count_run-n.ensures in
    let count : ℕ = c.count_weights.result in
    let none : drop n left ≡ [] = drop_all n left (omega arith) in
    let put : List ℕ → List ℕ = λ l. take c.runs.packed.at c.runs.key ++ l in
    λ ws.
    ap (λ es. put (runs_after (common_weight level) (c.runs.packed.run + count) (level_weights level (all_own v es) ++ ws))) (sym none)
    ∙ ap (λ (k : ℕ). put (runs_after (common_weight level) (c.runs.packed.run + k) (level_weights level (all_own v (drop n left)) ++ ws))) c.count_weights.ensures
    ∙ ap put (run-counted v level c.runs.packed.run c.runs.mask n left blank ws i.marked (omega (arith, run.few, c.if-n-left.true)) (omega arith) (λ k below. run.zeros k (omega (arith, below, c.if-n-left.true)))) ∙ i.same ws

pub runs-preserved : goal.runs-preserved
runs-preserved c =
    let v : Variable = c.args.v in let level : ℕ = c.args.level in let i = c.runs.invariant in
    let packed = c.pack_weight-packed.ensures in let run : ℕ = c.runs.packed.run + c.count_weights-in-runs.result in
    let w : ℕ = c.own_weight.result in let other : Element = record { starred = false; l1 = 0; l2 = 0; l3 = 0 } in
    let n : ℕ = c.count_run-n.result in let left : List Element = c.runs.left.now in
    let rest : List Element = c.split_at.result.1.now in
    let row = c.pack_row-row.ensures in let more : ℕ = c.pack_row-row.result.elements in
    let inside : n < length left = omega (arith, c.if-n-left.false) in
    let whole : length left ≡ n + 1 + length rest = omega (arith, inside, c.split_at.ensures.back_len) in
    let later : drop (n + more + 1) left ≡ drop more rest = ap (λ (k : ℕ). drop k left) (omega arith) ∙ sym (drop-drop more (n + 1) left) ∙ ap (drop more) (sym c.split_at.ensures.back) in
    let weights : List Element → List ℕ = λ es. level_weights level (all_own v es) in
    let put : List ℕ → List ℕ = λ l. take c.runs.packed.at c.runs.key ++ l in
    let own : List ℕ = filter (λ (x : ℕ). not (x == 0)) (w ∷ []) in
    let puts = rw c.common_weight-common.ensures.value at packed.bytes in
    let counted = c.count_run-n.ensures in
    record {
      few = row.few;
      marked = subst (AreMarked v level c.marked_after-mask.result) (later ∙ sym c.split_at-in-runs.ensures.back) (marked-after v level (n + more) c.runs.mask c.marked_after-mask.result left (omega (arith, whole, row.some)) c.marked_after-mask.ensures.others c.marked_after-mask.ensures.blanks i.marked);
      small = omega (arith, i.small, whole, c.split_at-in-runs.ensures.back_len);
      within = omega (arith, row.within, row.some, packed.within, i.within, whole, c.split_at-in-runs.ensures.back_len);
      stays = beyond-more _ _ _ _ _ _ (beyond-more _ _ _ _ _ _ i.stays packed.stays) row.stays;
      same = λ ws.
          ap (λ (es : List Element). take c.pack_row-row.result.packed.at c.pack_row-row.new.key ++ runs_after (common_weight level) c.pack_row-row.result.packed.run (weights es ++ ws)) c.split_at-in-runs.ensures.back
          ∙ row.bytes ws
          ∙ puts (weights rest ++ ws)
          ∙ ap (λ es. put (runs_after (common_weight level) run (own ++ (weights es ++ ws)))) c.split_at.ensures.back
          ∙ ap (λ l. put (runs_after (common_weight level) run l)) (sym (weights-one v level n w left other ws inside c.own_weight.ensures))
          ∙ ap (λ (k : ℕ). put (runs_after (common_weight level) (c.runs.packed.run + k) (weights (drop n left) ++ ws))) c.count_weights-in-runs.ensures
          ∙ ap put (run-counted v level c.runs.packed.run c.runs.mask n left blank ws i.marked counted.few (omega (arith, inside)) counted.zeros) ∙ i.same ws;
    }
