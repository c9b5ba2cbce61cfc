use Rattle.std.proofs.Common.{rules}
use Rattle.uca_testing.proofs.writers.ExpectingWriter.put.Goals as goal

pub returns-in-Some-clause-zeros : goal.returns-in-Some-clause-zeros
returns-in-Some-clause-zeros c = search rules
