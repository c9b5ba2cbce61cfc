use Rattle.std.proofs.Common.{length, take_all, ap, ◌∙◌, arith}
use Rattle.unicode_normalization.specs.Order.{is_ordered}
use Rattle.unicode_normalization.proofs.OrderLemmas.{is_ordered-canonical_order}
use Rattle.unicode_normalization.proofs.FormsLemmas.{class-latin}
use Rattle.uca_window.proofs.RunScan.{latin_parts}
use Rattle.uca_window.proofs.FormLemmas.{order-more, order-none, length-ordered}
use Rattle.uca_window.proofs.points.push_decomposed.Goals as goal
use Rattle.std.proofs.lemmas.Grind.{common_steps}

pub loop-point-init : goal.loop-point-init
loop-point-init c = record { points = order-none c.args.points.now.items c.requires.ordered; segments = c.requires.segments }

pub push_point-ends_at-requires-clause-room : goal.push_point-ends_at-requires-clause-room
push_point-ends_at-requires-clause-room c = grind (arith, common_steps, length-ordered)

pub push_point-ends_at-requires-clause-ordered : goal.push_point-ends_at-requires-clause-ordered
push_point-ends_at-requires-clause-ordered c = ap is_ordered c.loop-point.invariant.points ∙ is_ordered-canonical_order _

pub push_point-ends_at-requires-clause-segments : goal.push_point-ends_at-requires-clause-segments
push_point-ends_at-requires-clause-segments c = c.loop-point.invariant.segments

pub loop-point-preserved : goal.loop-point-preserved
loop-point-preserved c =
    record {
      points = order-more c.args.points.now.items c.decomposition-point-items.result.now c.loop-point.point-index c.point-item.result c.loop-point.points.items _ c.loop-point-test.true c.point-item.is c.loop-point.invariant.points c.push_point-ends_at.ensures.points;
      segments = c.push_point-ends_at.ensures.segments;
    }

pub returns-clause-segments : goal.returns-clause-segments
returns-clause-segments c = c.loop-point.invariant.segments

pub returns-clause-points : goal.returns-clause-points
returns-clause-points c = grind (arith, common_steps, take_all)

pub push_starter-requires-clause-room : goal.push_starter-requires-clause-room
push_starter-requires-clause-room c = omega (arith, ap length (latin_parts c.args.c c.if-c-lt-FIRST_DECOMPOSED.true), c.requires.room)

pub push_starter-requires-clause-starter : goal.push_starter-requires-clause-starter
push_starter-requires-clause-starter c = class-latin c.args.c (omega (arith, c.if-c-lt-FIRST_DECOMPOSED.true))

pub returns-then-c-lt-FIRST_DECOMPOSED-clause-points : goal.returns-then-c-lt-FIRST_DECOMPOSED-clause-points
returns-then-c-lt-FIRST_DECOMPOSED-clause-points c = grind (arith, common_steps, latin_parts)
