use Rattle.std.proofs.Common.{rules}
use Rattle.uca_commands.proofs.commands.check.run.Goals as goal

pub returns-clause-done : goal.returns-clause-done
returns-clause-done g c = search rules
