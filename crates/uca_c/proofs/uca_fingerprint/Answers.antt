use Rattle.std.proofs.Common.{rules}
use Rattle.uca_c.proofs.uca_fingerprint.Goals as goal

pub returns-clause-digest : goal.returns-clause-digest
returns-clause-digest c = search rules
