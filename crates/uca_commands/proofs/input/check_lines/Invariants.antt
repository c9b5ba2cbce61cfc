use Rattle.std.proofs.Common.{◌+◌, ◌≤◌, length}
use Rattle.uca_model.specs.Lines.{lines_of}
use Rattle.uca_commands.proofs.LinesLemmas.{HasFineFront}
use Rattle.uca_commands.proofs.input.check_lines.Given as goal

abbrev pub invariant-loop-left : goal.invariant-loop-left
invariant-loop-left l = record {
  front : HasFineFront (lines_of l.bytes) (lines_of l.left) l.number;
  small : l.number + length l.left ≤ length l.bytes;
}

abbrev pub decreases-loop-left : goal.decreases-loop-left
decreases-loop-left l = length l.left
