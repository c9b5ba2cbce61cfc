use Rattle.std.proofs.Common.{rules}
use Rattle.uca_io.proofs.digits.hex_digit.Goals as goal

pub returns-else-n-lt10 : goal.returns-else-n-lt10
returns-else-n-lt10 c = search rules
