use Rattle.std.proofs.Common.{◌<◌, ◌+◌, ◌^◌, length}
use Rattle.uca_io.specs.OutputBuffer.{accepted}
use Rattle.uca_commands.proofs.SendingLemmas.{Sends}
use Rattle.uca_commands.proofs.commands.order.send_bytes.Given as goal

abbrev pub invariant-loop-left : goal.invariant-loop-left
invariant-loop-left g l = record {
  sends : Sends (g.W.Writer.state l.fn.w) l.fn.out (g.W.Writer.state l.w) l.out l.left l.bytes;
  room : accepted l.out + length l.left < 2 ^ 128;
}

abbrev pub decreases-loop-left : goal.decreases-loop-left
decreases-loop-left g l = length l.left
