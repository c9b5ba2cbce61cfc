use Rattle.std.proofs.Common.{arith}
use Rattle.uca_match.specs.Found.{points_of}
use Rattle.uca_match.proofs.WindowMatches.{TakesHeld-filled}
use Rattle.uca_match.proofs.window_match.next_match.Goals as goal

pub returns-clause-held : goal.returns-clause-held
returns-clause-held g c = λ idle.
    TakesHeld-filled c.args.t.now c.args.window.now c.fill.new.self c.take_match.new.window (points_of c.take_match.result) _ _ c.closed.ensures.valid c.requires.fits idle (c.fill.ensures.idle idle) c.take_match.ensures.takes
    (omega (arith, c.if-closed-eq0.false, c.closed.ensures.value))
