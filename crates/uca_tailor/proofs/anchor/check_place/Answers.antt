use Rattle.std.proofs.Common.{rules}
use Rattle.uca_tailor.proofs.anchor.check_place.Goals as goal

pub returns-then-branch-clause-fault : goal.returns-then-branch-clause-fault
returns-then-branch-clause-fault c = search rules

pub returns-clause-fault : goal.returns-clause-fault
returns-clause-fault c = search rules
