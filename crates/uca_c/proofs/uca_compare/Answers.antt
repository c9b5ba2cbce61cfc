use Rattle.std.proofs.Common.{rules}
use Rattle.uca_c.proofs.uca_compare.Goals as goal

pub returns-clause-compares : goal.returns-clause-compares
returns-clause-compares c = search rules
