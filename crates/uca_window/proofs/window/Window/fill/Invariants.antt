use Rattle.std.proofs.Common.{◌≡◌, false}
use Rattle.uca_model.specs.Source.{unread}
use Rattle.uca_model.specs.Window.{is_wanting, credit, rest_of, ReadsOn}
use Rattle.uca_window.proofs.WindowCalls.{IsFilling}
use Rattle.uca_window.proofs.window.Window.fill.Given as goal

-- it has read on while it wanted a character, the rest is as it was, and it was left as it was if enough was closed
abbrev pub invariant-loop-self : goal.invariant-loop-self
invariant-loop-self g l = record {
  reads : ReadsOn l.initial.self (g.S.Source.state l.initial.source) l.self (g.S.Source.state l.source);
  rest : rest_of l.self (unread (g.S.Source.state l.source)) ≡ rest_of l.initial.self (unread (g.S.Source.state l.initial.source));
  idle : is_wanting l.initial.self ≡ false → (l.self ≡ l.initial.self) × (g.S.Source.state l.source ≡ g.S.Source.state l.initial.source);
  filling : IsFilling l.initial.self (g.S.Source.state l.initial.source) l.self (g.S.Source.state l.source);
}

abbrev pub decreases-loop-self : goal.decreases-loop-self
decreases-loop-self g l = credit l.self (unread (g.S.Source.state l.source))
