use Rattle.std.proofs.Common.{length}
use Rattle.uca_model.specs.Source.{unread}
use Rattle.uca_model.specs.Window.{ReadsOn}
use Rattle.uca_levels.specs.Reads.{InStep}
use Rattle.uca_levels.specs.RemainingWeights.{remaining_weights}
use Rattle.uca_levels.proofs.level_order.order_of_remaining.Given as goal

abbrev pub invariant-loop-order : goal.invariant-loop-order
invariant-loop-order g l = record {
  left : ReadsOn l.initial.left.elements.window (g.S.Source.state l.initial.a) l.left.elements.window (g.S.Source.state l.a);
  right : ReadsOn l.initial.right.elements.window (g.T.Source.state l.initial.b) l.right.elements.window (g.T.Source.state l.b);
  lists : InStep (remaining_weights l.initial.left (unread (g.S.Source.state l.initial.a))) (remaining_weights l.initial.right (unread (g.T.Source.state l.initial.b)))
      (remaining_weights l.left (unread (g.S.Source.state l.a))) (remaining_weights l.right (unread (g.T.Source.state l.b)));
}

abbrev pub decreases-loop-order : goal.decreases-loop-order
decreases-loop-order g l = length (remaining_weights l.left (unread (g.S.Source.state l.a)))
