use Rattle.uca_key.proofs.Common.{◌∙◌, List, ℕ, arith, subst, sym, StaysBeyond}
use Rattle.uca_key.proofs.PlacingLemmas.{beyond-more, stays-beyond}
use Rattle.uca_key.proofs.weight_bytes.put_kept.Goals as goal

pub runs-preserved : goal.runs-preserved
runs-preserved c =
    let i = c.runs.invariant in let short = c.put_shorts-short.ensures in let pair = c.in-Some.ensures in
    record {
      within = omega (arith, pair.within, short.within, short.more, i.within);
      more = omega (arith, pair.more, short.more, i.more);
      some = pair.some;
      stays = beyond-more _ _ _ _ _ _ (beyond-more _ _ _ _ _ _ i.stays short.stays) (stays-beyond _ _ _ _ pair.stays);
      same = λ ws. pair.bytes ws ∙ short.bytes ws ∙ i.same ws;
    }

pub returns-in_default-clause-stays : goal.returns-in_default-clause-stays
returns-in_default-clause-stays c =
    subst (λ (key : List ℕ). StaysBeyond c.args.before.at c.put_shorts-short.result.at c.args.key.now key) (sym c.in_default.ensures.none) (beyond-more _ _ _ _ _ _ c.runs.invariant.stays c.put_shorts-short.ensures.stays)
