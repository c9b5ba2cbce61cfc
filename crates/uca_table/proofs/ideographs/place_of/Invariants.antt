use Rattle.uca_table.proofs.IdeographLemmas.{GoesAfter}
use Rattle.uca_table.proofs.ideographs.place_of.Given as goal

abbrev pub invariant-loop-at : goal.invariant-loop-at
invariant-loop-at l = GoesAfter l.range l.added l.at
