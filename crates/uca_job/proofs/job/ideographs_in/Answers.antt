use Rattle.std.proofs.Common.{rules}
use Rattle.uca_job.proofs.job.ideographs_in.Goals as goal

pub returns-in-None-range_spelled : goal.returns-in-None-range_spelled
returns-in-None-range_spelled c = search rules
