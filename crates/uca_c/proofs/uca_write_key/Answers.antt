use Rattle.std.proofs.Common.{rules}
use Rattle.uca_c.proofs.uca_write_key.Goals as goal

pub returns-clause-key : goal.returns-clause-key
returns-clause-key c = search rules
