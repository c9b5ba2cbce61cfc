use Rattle.std.proofs.Common.{subst, Some, None}
use Rattle.uca_tailor.specs.Scan.{TakesOne, state_of}
use Rattle.uca_tailor.proofs.ScanSteps.{takes_one, takes_none, cursor_next}
use Rattle.uca_tailor.proofs.scanner.Scanner.next.Goals as goal

pub returns-in_default : goal.returns-in_default
returns-in_default c = subst (λ s. TakesOne s None (state_of c.next.new.self)) c.self.view_is (takes_none c.self.inside.rest c.next.new.self c.in_default.ensures.steps.0 c.in_default.ensures.steps.1)

pub invariant_of-self-2 : goal.invariant_of-self-2
invariant_of-self-2 c =
    let steps = c.in-Some.ensures.steps in
    cursor_next c.self.inside.rest c.next.new.self c.in-Some.item.1 c.self.invariant steps.1 steps.2

pub returns : goal.returns
returns c =
    let steps = c.in-Some.ensures.steps in
    subst (λ s. TakesOne s (Some c.in-Some.item.1) (state_of c.next.new.self)) c.self.view_is (takes_one c.self.inside.rest c.next.new.self c.in-Some.item.1 c.self.invariant steps.1 steps.2)
