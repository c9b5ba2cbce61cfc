use Rattle.uca_key.proofs.Common.{[], chars, ◌∙◌, chars-nil}
use Rattle.uca_key.proofs.CodeSteps.{alone-primary}
use Rattle.uca_key.proofs.weight_codes.primary_of.Goals as goal

pub returns-in-Some : goal.returns-in-Some
returns-in-Some c = c.first_primary.ensures ∙ alone-primary c.args.t.now c.args.c c.in-Some.elements.now (chars []) chars-nil c.in-Some.ensures
