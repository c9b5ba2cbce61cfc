use Rattle.std.proofs.Common.{◌≡◌, ◌<◌, ◌++◌, length}
use Rattle.unicode_normalization.specs.Forms.{nfd}
use Rattle.uca_model.specs.Source.{unread}
use Rattle.uca_model.specs.Window.{Fits, rest_of}
use Rattle.tests_window.proofs.tests.window.nfd_by_window.Given as goal

-- what was taken out and the rest are the NFD of all
abbrev pub invariant-loop-window : goal.invariant-loop-window
invariant-loop-window g l = record {
  fits : Fits l.window (unread (g.S.Source.state l.source));
  all : l.all.items ++ rest_of l.window (unread (g.S.Source.state l.source)) ≡ nfd (unread (g.S.Source.state l.fn.source));
  enough : l.window.closed < l.window.longest → l.window.closed ≡ length (rest_of l.window (unread (g.S.Source.state l.source)));
}

abbrev pub decreases-loop-window : goal.decreases-loop-window
decreases-loop-window g l = length (rest_of l.window (unread (g.S.Source.state l.source)))
