use Rattle.std.proofs.Common.{rules}
use Rattle.uca_job.proofs.job.fault_from.Goals as goal

pub returns-in-Ok-clause-usage : goal.returns-in-Ok-clause-usage
returns-in-Ok-clause-usage c = search rules
