use Rattle.std.proofs.Common.{rules}
use Rattle.uca_tailor.proofs.shifts.moved_at_once.Goals as goal

pub returns-then-weight-ge32768 : goal.returns-then-weight-ge32768
returns-then-weight-ge32768 c = search rules

pub returns : goal.returns
returns c = search rules
