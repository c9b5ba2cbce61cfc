use Rattle.std.proofs.Common.{arith}
use Rattle.uca_levels.proofs.StreamLemmas.{decides-whole}
use Rattle.uca_levels.proofs.stream.order_of.Goals as goal

pub returns-in-Some-clause-order : goal.returns-in-Some-clause-order
returns-in-Some-clause-order g c =
    decides-whole _ c.in-Ok.x c.in-Ok-next_weight.y c.widened.result c.widened-in-loop-x.result c.in-Some.order _ _ _ _ _ _
    c.in-Some.ensures.some c.widened.ensures c.widened-in-loop-x.ensures (omega (arith, c.requires.last))
    (rw (← c.loop-x.invariant.level_a) c.in-Ok.ensures.weight)
    (rw (c.requires.level, ← c.loop-x.invariant.level_b) c.in-Ok-next_weight.ensures.weight)
    c.loop-x.invariant.lists c.in-Ok.ensures.yields c.in-Ok-next_weight.ensures.yields
