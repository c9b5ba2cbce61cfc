use Rattle.std.proofs.Common.{rules}
use Rattle.uca_c.proofs.looks.uca_compare_levels.Goals as goal

pub returns-clause-compares : goal.returns-clause-compares
returns-clause-compares c = search rules
