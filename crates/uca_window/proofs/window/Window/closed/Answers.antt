use Rattle.std.proofs.Common.{subst}
use Rattle.uca_model.specs.Window.{IsWindow}
use Rattle.uca_window.proofs.WindowCalls.{shows_front}
use Rattle.uca_window.proofs.window.Window.closed.Goals as goal

pub returns-clause-front : goal.returns-clause-front
returns-clause-front c = λ left fits. shows_front c.args.self.now left (subst IsWindow c.self.view_is c.self.invariant) fits
