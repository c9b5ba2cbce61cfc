use Rattle.std.proofs.Common.{◌+◌, ◌*◌, ◌^◌, ◌≤◌, length, All}
use Rattle.uca_io.specs.OutputBuffer.{accepted}
use Rattle.uca_model.specs.CompareOutput.{compare_each, compare_output}
use Rattle.uca_model.specs.Lines.{lines_of, IsTextLine}
use Rattle.uca_commands.proofs.SendingLemmas.{Writes}
use Rattle.uca_commands.proofs.commands.compare.write_orders.Given as goal

abbrev pub invariant-loop-before : goal.invariant-loop-before
invariant-loop-before g l = record {
  writes : Writes (g.W.Writer.state l.fn.w) (g.W.Writer.state l.w) l.out (compare_each l.t l.s l.before (lines_of l.left)) (compare_output l.t l.s l.bytes);
  text : IsTextLine l.before;
  texts : All IsTextLine (lines_of l.left);
  room : accepted l.out + 2 ^ 70 * length l.left ≤ 2 ^ 70 * length l.bytes;
}

abbrev pub decreases-loop-before : goal.decreases-loop-before
decreases-loop-before g l = length l.left
