use Rattle.std.proofs.Common.{rules}
use Rattle.uca_c.proofs.reports.of_comparison.Goals as goal

pub returns-in-Err-Second : goal.returns-in-Err-Second
returns-in-Err-Second c = search rules
