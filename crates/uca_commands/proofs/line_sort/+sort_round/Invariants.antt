use Rattle.std.proofs.Common.{◌-◌, length}
use Rattle.uca_commands.proofs.LineSortLemmas.{RunsSorted}
use Rattle.uca_commands.proofs.line_sort.+sort_round.Given as goal

abbrev pub decreases-sort_round : goal.decreases-sort_round
decreases-sort_round l = 16 - l.round

abbrev pub invariant-loop-from : goal.invariant-loop-from
invariant-loop-from l = RunsSorted l.of l.initial.lines l.lines l.from

abbrev pub decreases-loop-from : goal.decreases-loop-from
decreases-loop-from l = length l.initial.lines - l.from
