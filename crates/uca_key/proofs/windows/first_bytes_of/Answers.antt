use Rattle.uca_key.proofs.Common.{arith, length-set, cases_lt, common_steps, get_or-set_at}
use Rattle.uca_key.proofs.windows.first_bytes_of.Goals as goal

pub loop-w-preserved : goal.loop-w-preserved
loop-w-preserved c = grind (arith, common_steps, length-set, cases_lt, get_or-set_at)
