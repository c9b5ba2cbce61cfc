use Rattle.std.proofs.Common.{[], ◌∷◌, arith}
use Rattle.uca_io.proofs.BufferLemmas.{accepted-Accepts}
use Rattle.uca_io.proofs.SendLemmas.{both_sent}
use Rattle.uca_model.specs.Lines.{line_feed}
use Rattle.uca_commands.proofs.commands.order.send_line.Goals as goal

pub write-requires : goal.write-requires
write-requires g c = (omega arith, (omega arith, omega (arith, accepted-Accepts _ _ _ _ c.args.line.now c.in_ok-send_bytes.ensures)))

pub returns : goal.returns
returns g c = both_sent _ _ _ _ _ _ c.args.line.now (line_feed ∷ []) c.write.result c.in_ok-send_bytes.ensures c.write.ensures.all
