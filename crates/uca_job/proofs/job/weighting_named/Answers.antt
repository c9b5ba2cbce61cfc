use Rattle.std.proofs.Common.{rules}
use Rattle.uca_job.proofs.job.weighting_named.Goals as goal

pub returns-in-blanked : goal.returns-in-blanked
returns-in-blanked c = search rules
