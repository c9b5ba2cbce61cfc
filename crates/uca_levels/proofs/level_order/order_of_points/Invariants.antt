use Rattle.std.proofs.Common.{length}
use Rattle.uca_model.specs.LevelWeights.{level_list}
use Rattle.uca_model.specs.Source.{unread}
use Rattle.uca_model.specs.Window.{ReadsOn, rest_of}
use Rattle.uca_levels.specs.Reads.{InStep}
use Rattle.uca_levels.proofs.level_order.order_of_points.Given as goal

abbrev pub invariant-loop-order : goal.invariant-loop-order
invariant-loop-order g l = record {
  left : ReadsOn l.initial.one (g.S.Source.state l.initial.a) l.one (g.S.Source.state l.a);
  right : ReadsOn l.initial.other (g.T.Source.state l.initial.b) l.other (g.T.Source.state l.b);
  lists : InStep (level_list l.t l.fn.v (unread (g.S.Source.state l.fn.a)) 5) (level_list l.t l.fn.v (unread (g.T.Source.state l.fn.b)) 5)
      (rest_of l.one (unread (g.S.Source.state l.a))) (rest_of l.other (unread (g.T.Source.state l.b)));
}

abbrev pub decreases-loop-order : goal.decreases-loop-order
decreases-loop-order g l = length (rest_of l.one (unread (g.S.Source.state l.a)))
