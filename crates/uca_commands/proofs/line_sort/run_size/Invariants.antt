use Rattle.std.proofs.Common.{◌≡◌, ℕ, ◌<◌, get_or}
use Rattle.uca_commands.specs.declared.keyed_line.KeyedLine.{KeyedLine}
use Rattle.uca_commands.proofs.line_sort.run_size.Given as goal

abbrev pub invariant-loop-size : goal.invariant-loop-size
invariant-loop-size l = (k : ℕ) (d : KeyedLine) → k < l.size → (get_or l.lines k d).front ≡ (get_or l.lines 0 d).front
