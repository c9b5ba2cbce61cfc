use Rattle.std.proofs.Common.{◌≤◌, ◌+◌, ◌*◌, ◌^◌, length, map, drop}
use Rattle.uca_io.specs.OutputBuffer.{accepted}
use Rattle.uca_model.specs.OrderOutput.{text_of_lines}
use Rattle.uca_commands.specs.KeyedLines.{line_of}
use Rattle.uca_commands.proofs.SendingLemmas.{Writes}
use Rattle.uca_commands.proofs.commands.order.write_keyed.Given as goal

abbrev pub invariant-loop-keyed : goal.invariant-loop-keyed
invariant-loop-keyed g l = record {
  writes : Writes (g.W.Writer.state l.fn.w) (g.W.Writer.state l.w) l.out (text_of_lines (map (line_of l.of) (drop l.keyed-index l.lines))) (text_of_lines (map (line_of l.of) l.lines));
  room : accepted l.out + 2 ^ 65 * length (drop l.keyed-index l.lines) ≤ 2 ^ 65 * length l.lines;
}
