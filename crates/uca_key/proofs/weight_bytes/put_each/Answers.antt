use Rattle.uca_key.proofs.Common.{◌∙◌, List, ℕ, arith, subst, sym, StaysBeyond}
use Rattle.uca_key.proofs.PlacingLemmas.{beyond-more, stays-beyond}
use Rattle.uca_key.proofs.weight_bytes.put_each.Goals as goal

pub each-preserved : goal.each-preserved
each-preserved c =
    let i = c.each.invariant in let kept = c.put_kept-kept.ensures in let next = c.in-Some.ensures in
    record {
      window = next.window;
      within = omega (arith, next.within, kept.within, i.within);
      some = omega (arith, next.inside);
      stays = beyond-more _ _ _ _ _ _ (beyond-more _ _ _ _ _ _ i.stays kept.stays) (stays-beyond _ _ _ _ next.stays);
      same = λ ws. next.bytes ws ∙ kept.bytes ws ∙ i.same ws;
    }

pub returns-in_default-clause-stays : goal.returns-in_default-clause-stays
returns-in_default-clause-stays c =
    subst (λ (key : List ℕ). StaysBeyond c.args.before.at c.put_kept-kept.result.progress.at c.args.key.now key) (sym c.in_default.ensures.none) (beyond-more _ _ _ _ _ _ c.each.invariant.stays c.put_kept-kept.ensures.stays)
