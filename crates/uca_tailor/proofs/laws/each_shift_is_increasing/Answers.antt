use Rattle.uca_tailor.proofs.IncreasingShifts.{each_shift}
use Rattle.uca_tailor.proofs.laws.each_shift_is_increasing.Goals as goal

pub returns : goal.returns
returns c = each_shift
