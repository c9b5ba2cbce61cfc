use Rattle.uca_key.proofs.Common.{◌+◌, ◌++◌, ◌∙◌, false, List, ℕ, drop, sym, ap, take, arith, level_weights, Element, common_weight, runs_after, all_own}
use Rattle.uca_key.proofs.PlacingLemmas.{beyond-more}
use Rattle.uca_key.proofs.RunsLemmas.{weights-one}
use Rattle.uca_key.proofs.runs.pack_row.Goals as goal

pub each-preserved : goal.each-preserved
each-preserved c =
    let i = c.each.invariant in let packed = c.pack_weight-packed.ensures in let v = c.args.v in let level : ℕ = c.args.level in
    let es : List Element = c.args.elements.now in let n : ℕ = c.each.n in let w : ℕ = c.own_weight-weight.result in
    let other : Element = record { starred = false; l1 = 0; l2 = 0; l3 = 0 } in
    let put : List ℕ → List ℕ = λ l. take c.each.packed.at c.each.key ++ l in
    let puts = rw c.common_weight-common.ensures.value at packed.bytes in
    record {
      few = packed.few;
      some = omega (arith, c.each-test.true);
      within = omega (arith, i.within, packed.within);
      stays = beyond-more _ _ _ _ _ _ i.stays packed.stays;
      same = λ ws.
          puts (level_weights level (all_own v (drop (n + 1) es)) ++ ws)
          ∙ ap (λ l. put (runs_after (common_weight level) c.each.packed.run l)) (sym (weights-one v level n w es other ws (omega (arith, c.each-test.true)) c.own_weight-weight.ensures)) ∙ i.same ws;
    }
