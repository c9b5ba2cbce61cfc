use Rattle.std.proofs.Common.{rules}
use Rattle.uca_commands.proofs.input.read_input.Goals as goal

pub returns-clause-calls : goal.returns-clause-calls
returns-clause-calls g c = search rules

pub returns-clause-reads : goal.returns-clause-reads
returns-clause-reads g c = search rules
