use Rattle.std.proofs.Common.{◌+◌, ◌*◌, ◌^◌, ◌≤◌, length, All}
use Rattle.uca_io.specs.OutputBuffer.{accepted}
use Rattle.uca_model.specs.Lines.{lines_of, IsTextLine}
use Rattle.uca_commands.specs.Sending.{lines_text}
use Rattle.uca_commands.proofs.SendingLemmas.{Writes}
use Rattle.uca_commands.proofs.output.write_lines.Given as goal

abbrev pub invariant-loop-left : goal.invariant-loop-left
invariant-loop-left g l = record {
  writes : Writes (g.W.Writer.state l.fn.w) (g.W.Writer.state l.w) l.out (lines_text l.form l.t l.s l.left) (lines_text l.form l.t l.s l.bytes);
  texts : All IsTextLine (lines_of l.left);
  room : accepted l.out + 2 ^ 70 * length l.left ≤ 2 ^ 70 * length l.bytes;
}

abbrev pub decreases-loop-left : goal.decreases-loop-left
decreases-loop-left g l = length l.left
