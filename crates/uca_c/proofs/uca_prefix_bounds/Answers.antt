use Rattle.std.proofs.Common.{rules}
use Rattle.uca_c.proofs.uca_prefix_bounds.Goals as goal

pub returns-clause-bounds : goal.returns-clause-bounds
returns-clause-bounds c = search rules
