use Rattle.std.proofs.Common.{rules}
use Rattle.uca_weights.proofs.element.Element.weight.Goals as goal

pub returns-in_default : goal.returns-in_default
returns-in_default c = search rules
