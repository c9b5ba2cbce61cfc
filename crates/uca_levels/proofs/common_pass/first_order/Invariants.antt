use Rattle.uca_levels.specs.InCommon.{InCommon, work_left}
use Rattle.uca_levels.proofs.common_pass.first_order.Given as goal

-- all characters so far were the same
abbrev pub invariant-loop : goal.invariant-loop
invariant-loop g l = InCommon l.t l.fn.v (g.S.Source.state l.fn.a) (g.T.Source.state l.fn.b) l.left l.right l.marked (g.S.Source.state l.a) (g.T.Source.state l.b)

abbrev pub decreases-loop : goal.decreases-loop
decreases-loop g l = work_left l.left (g.S.Source.state l.a)
