use Rattle.std.proofs.Common.{rules}
use Rattle.uca_c.proofs.uca_clone.Goals as goal

pub returns-clause-shares : goal.returns-clause-shares
returns-clause-shares c = search rules
