use Rattle.std.proofs.Common.{◌≡◌, ◌+◌, ◌-◌, ◌≤◌, ◌++◌, length, map, drop}
use Rattle.uca_model.specs.Lines.{lines_of}
use Rattle.uca_commands.specs.LinePlaces.{line_at}
use Rattle.uca_commands.proofs.commands.order.line_places.Given as goal

abbrev pub invariant-loop-left : goal.invariant-loop-left
invariant-loop-left l = record {
  lines : map (line_at l.bytes) l.places.items ++ lines_of l.left ≡ lines_of l.bytes;
  left : l.left ≡ drop (length l.bytes - length l.left) l.bytes;
  few : length l.places.items + length l.left ≤ length l.bytes;
}

abbrev pub decreases-loop-left : goal.decreases-loop-left
decreases-loop-left l = length l.left
