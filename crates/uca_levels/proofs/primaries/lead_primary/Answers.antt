use Rattle.std.proofs.Common.{arith}
use Rattle.uca_levels.proofs.PrimarySteps.{first-weight, lead-weight}
use Rattle.uca_levels.proofs.primaries.lead_primary.Goals as goal

pub returns-in-Some-clause-own : goal.returns-in-Some-clause-own
returns-in-Some-clause-own c = λ rest.
    let is = c.in-Some.ensures.weight in
    first-weight c.args.t.now c.args.v c.args.c rest _ (is.alone rest) c.in-Some.weight (lead-weight c.args.v _ _ is.lead (rw c.in-NonIgnorable.is is.weight)) (λ none. omega (arith, none, c.in-Some.ensures.some))

pub returns-else-weight-eq0-clause-own : goal.returns-else-weight-eq0-clause-own
returns-else-weight-eq0-clause-own c = λ rest.
    first-weight c.args.t.now c.args.v c.args.c rest _ (c.in_ok-lead.ensures.alone rest) c.primary_weight-weight.result (lead-weight c.args.v _ _ c.in_ok-lead.ensures.lead c.primary_weight-weight.ensures) c.if-weight-eq0.false
