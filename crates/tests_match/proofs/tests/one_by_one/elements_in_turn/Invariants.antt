use Rattle.std.proofs.Common.{◌≡◌, ◌++◌, length}
use Rattle.unicode_normalization.specs.Forms.{nfd}
use Rattle.uca_model.specs.CollationElements.{elements}
use Rattle.uca_model.specs.Source.{unread}
use Rattle.uca_model.specs.Window.{Fits}
use Rattle.uca_match.specs.RemainingElements.{remaining_elements}
use Rattle.tests_match.proofs.tests.one_by_one.elements_in_turn.Given as goal

-- those that were given and those to come are the elements of all
abbrev pub invariant-each : goal.invariant-each
invariant-each g l = record {
  fits : Fits l.elements.window (unread (g.S.Source.state l.source));
  all : l.all.items ++ remaining_elements l.elements (unread (g.S.Source.state l.source)) ≡ elements l.t (nfd (unread (g.S.Source.state l.fn.source)));
}

abbrev pub decreases-each : goal.decreases-each
decreases-each g l = length (remaining_elements l.elements (unread (g.S.Source.state l.source)))
