use Rattle.std.proofs.Common.{rules}
use Rattle.uca_allkeys.proofs.lines.add_line.Goals as goal

pub returns-in-Err-clause-adds : goal.returns-in-Err-clause-adds
returns-in-Err-clause-adds c = search rules
