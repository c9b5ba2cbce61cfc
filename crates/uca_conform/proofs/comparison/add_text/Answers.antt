use Rattle.std.proofs.Common.{rules}
use Rattle.uca_conform.proofs.comparison.add_text.Goals as goal

pub returns-clause-sum : goal.returns-clause-sum
returns-clause-sum c = search rules
