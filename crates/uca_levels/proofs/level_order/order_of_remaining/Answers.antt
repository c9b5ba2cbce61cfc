use Rattle.std.proofs.Common.{arith}
use Rattle.uca_levels.proofs.ReadsLemmas.{ReadsOn-more}
use Rattle.uca_levels.proofs.StreamLemmas.{decides-whole, same-more, of-weight}
use Rattle.uca_levels.proofs.level_order.order_of_remaining.Goals as goal

pub loop-order-preserved : goal.loop-order-preserved
loop-order-preserved g c =
    record {
      left = ReadsOn-more _ _ _ (g.S.Source.state c.args.a.now) _ _ c.loop-order.invariant.left c.next-x.ensures.yields.reads;
      right = ReadsOn-more _ _ _ (g.T.Source.state c.args.b.now) _ _ c.loop-order.invariant.right c.next-y.ensures.yields.reads;
      lists = same-more c.next-x.result c.next-y.result c.widened.result c.widened-in-loop-order.result _ _ _ _ _ _ c.in_default.ensures.none c.widened.ensures c.widened-in-loop-order.ensures c.loop-order.invariant.lists c.next-x.ensures.yields.first c.next-y.ensures.yields.first;
    }

pub returns-in-Some-clause-order : goal.returns-in-Some-clause-order
returns-in-Some-clause-order g c =
    decides-whole _ c.next-x.result c.next-y.result c.widened.result c.widened-in-loop-order.result c.in-Some.order _ _ _ _ _ _
    c.in-Some.ensures.some c.widened.ensures c.widened-in-loop-order.ensures (omega (arith, c.requires.last))
    (of-weight _ c.next-x.result c.next-x.ensures.weight) (of-weight _ c.next-y.result c.next-y.ensures.weight)
    c.loop-order.invariant.lists c.next-x.ensures.yields.first c.next-y.ensures.yields.first
