use Rattle.std.proofs.Common.{arith}
use Rattle.uca_levels.proofs.ReadsLemmas.{ReadsOn-more}
use Rattle.uca_levels.proofs.StreamLemmas.{decides-whole, same-more, of-point}
use Rattle.uca_levels.proofs.level_order.order_of_points.Goals as goal

pub loop-order-preserved : goal.loop-order-preserved
loop-order-preserved g c =
    record {
      left = ReadsOn-more _ _ _ _ _ _ c.loop-order.invariant.left c.next-x.ensures.yields.reads;
      right = ReadsOn-more _ _ _ _ _ _ c.loop-order.invariant.right c.next-y.ensures.yields.reads;
      lists = same-more c.next-x.result c.next-y.result c.as_number.result c.as_number-in-loop-order.result _ _ _ _ _ _ c.in_default.ensures.none c.as_number.ensures c.as_number-in-loop-order.ensures c.loop-order.invariant.lists c.next-x.ensures.yields.first c.next-y.ensures.yields.first;
    }

pub returns-in-Some-clause-order : goal.returns-in-Some-clause-order
returns-in-Some-clause-order g c =
    decides-whole 5 c.next-x.result c.next-y.result c.as_number.result c.as_number-in-loop-order.result c.in-Some.order _ _ _ _ _ _
    c.in-Some.ensures.some c.as_number.ensures c.as_number-in-loop-order.ensures (omega arith)
    (of-point c.next-x.result c.next-x.ensures.point) (of-point c.next-y.result c.next-y.ensures.point)
    c.loop-order.invariant.lists c.next-x.ensures.yields.first c.next-y.ensures.yields.first
