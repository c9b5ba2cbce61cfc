use Rattle.uca_levels.proofs.ReadsLemmas.{InStep-orders}
use Rattle.uca_levels.proofs.StreamLemmas.{if_some}
use Rattle.uca_levels.proofs.WithoutFront.{in-step-apart, left-safe}
use Rattle.uca_levels.proofs.text_order.order_at_first.Goals as goal

pub order_of_weights-requires-clause-safe_a : goal.order_of_weights-requires-clause-safe_a
order_of_weights-requires-clause-safe_a c = (left-safe _ _ _ _ _ c.apart_after.ensures c.requires.safe_a c.requires.safe_b).0

pub order_of_weights-requires-clause-safe_b : goal.order_of_weights-requires-clause-safe_b
order_of_weights-requires-clause-safe_b c = (left-safe _ _ _ _ _ c.apart_after.ensures c.requires.safe_a c.requires.safe_b).1

pub returns : goal.returns
returns c =
    if_some c.order_of_weights.result _ _ (λ o. InStep-orders 1 _ _ _ _ o (in-step-apart c.args.t.now c.args.v _ _ _ _ c.apart_after.ensures)) c.order_of_weights.ensures
