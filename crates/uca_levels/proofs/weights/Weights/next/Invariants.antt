use Rattle.std.proofs.Common.{◌≡◌, length}
use Rattle.uca_model.specs.Source.{unread}
use Rattle.uca_model.specs.Window.{ReadsOn}
use Rattle.uca_levels.specs.RemainingWeights.{remaining_weights, remaining_with_zeros}
use Rattle.uca_levels.proofs.weights.Weights.next.Given as goal

abbrev pub invariant-loop-weight : goal.invariant-loop-weight
invariant-loop-weight g l = record {
  level : l.self.level ≡ l.fn.self.level;
  table : l.self.elements.table ≡ l.fn.self.elements.table;
  reads : ReadsOn l.fn.self.elements.window (g.S.Source.state l.fn.source) l.self.elements.window (g.S.Source.state l.source);
  same : remaining_weights l.fn.self (unread (g.S.Source.state l.fn.source)) ≡ remaining_weights l.self (unread (g.S.Source.state l.source));
}

abbrev pub decreases-loop-weight : goal.decreases-loop-weight
decreases-loop-weight g l = length (remaining_with_zeros l.self (unread (g.S.Source.state l.source)))
