use Rattle.std.proofs.Common.{rules}
use Rattle.uca_c.proofs.settings.has_zeros.Goals as goal

pub returns : goal.returns
returns c = search rules
