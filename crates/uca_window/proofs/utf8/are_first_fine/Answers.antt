use Rattle.std.proofs.Common.{arith}
use Rattle.uca_window.proofs.Utf8Lanes.{first_fine}
use Rattle.uca_window.proofs.utf8.are_first_fine.Goals as goal

pub returns : goal.returns
returns c = λ none. first_fine c.args.bytes.now 16 (omega arith) c.requires (c.are_fine_after.ensures none)
