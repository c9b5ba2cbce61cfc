use Rattle.std.proofs.Common.{rules}
use Rattle.uca_c.proofs.uca_open.Goals as goal

pub returns : goal.returns
returns c = search rules
