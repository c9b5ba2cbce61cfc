use Rattle.std.proofs.Common.{length}
use Rattle.uca_model.specs.Source.{unread}
use Rattle.uca_model.specs.Window.{Fits}
use Rattle.uca_levels.specs.RemainingWeights.{remaining_weights}
use Rattle.tests_levels.proofs.tests.weights_in_turn.Given as goal

abbrev pub invariant-each : goal.invariant-each
invariant-each g l = Fits l.weights.elements.window (unread (g.S.Source.state l.source))

abbrev pub decreases-each : goal.decreases-each
decreases-each g l = length (remaining_weights l.weights (unread (g.S.Source.state l.source)))
