use Rattle.std.proofs.Common.{◌≡◌, ◌+◌, [], ◌∷◌, length, arith}
use Rattle.uca_io.specs.OutputBuffer.{accepted}
use Rattle.uca_io.proofs.BufferLemmas.{accepted-Accepts}
use Rattle.uca_io.proofs.SendLemmas.{both_sent}
use Rattle.uca_model.specs.Lines.{line_feed}
use Rattle.uca_model.specs.Output.{hex_text}
use Rattle.uca_io.proofs.HexLemmas.{length-hex_text}
use Rattle.uca_commands.proofs.SendingLemmas.{accepted-after}
use Rattle.uca_commands.proofs.output.send_key.Goals as goal

pub write-requires : goal.write-requires
write-requires g c =
    let size : accepted c.send_hex.new.out ≡ accepted c.args.out.now + length (hex_text c.args.key.now) = accepted-Accepts _ _ _ _ (hex_text c.args.key.now) c.in_ok-send_hex.ensures in
    (omega arith, (omega arith, omega (arith, size, length-hex_text c.args.key.now)))

pub returns-clause-sends : goal.returns-clause-sends
returns-clause-sends g c = both_sent _ _ _ _ _ _ (hex_text c.args.key.now) (line_feed ∷ []) c.write.result c.in_ok-send_hex.ensures c.write.ensures.all

pub returns-clause-small : goal.returns-clause-small
returns-clause-small g c =
    let size : accepted c.send_hex.new.out ≡ accepted c.args.out.now + length (hex_text c.args.key.now) = accepted-Accepts _ _ _ _ (hex_text c.args.key.now) c.in_ok-send_hex.ensures in
    accepted-after _ _ _ _ (line_feed ∷ []) _ c.write.result c.write.ensures.all (omega (arith, size, length-hex_text c.args.key.now))
