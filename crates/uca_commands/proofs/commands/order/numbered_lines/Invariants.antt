use Rattle.std.proofs.Common.{◌≡◌, map}
use Rattle.std.specs.List.{range_with_len}
use Rattle.uca_commands.specs.KeyedLines.{numbered}
use Rattle.uca_commands.proofs.commands.order.numbered_lines.Given as goal

abbrev pub invariant-loop-number : goal.invariant-loop-number
invariant-loop-number l = l.lines.items ≡ map numbered (range_with_len 0 l.number)
