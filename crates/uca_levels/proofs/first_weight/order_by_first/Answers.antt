use Rattle.uca_levels.proofs.FirstWeight.{order-brought}
use Rattle.uca_levels.proofs.StreamLemmas.{if_some}
use Rattle.uca_levels.proofs.first_weight.order_by_first.Goals as goal

pub returns : goal.returns
returns c =
    if_some c.decided.result _ _ (λ o. order-brought c.args.t.now c.args.v c.args.x c.args.y _ _ _ _ o c.in_ok-left.ensures c.in_ok-right.ensures c.widened.ensures c.widened-2.ensures) c.decided.ensures.some
