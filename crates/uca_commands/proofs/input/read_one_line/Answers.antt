use Rattle.std.proofs.Common.{rules}
use Rattle.uca_commands.proofs.input.read_one_line.Goals as goal

pub returns-then-not-is_one_line-clause-err : goal.returns-then-not-is_one_line-clause-err
returns-then-not-is_one_line-clause-err g c = search rules
