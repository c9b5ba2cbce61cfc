use Rattle.uca_table.proofs.Common.{HoldsMarks}
use Rattle.uca_table.proofs.marks.MarkTable.own_up_to.Given as goal

abbrev pub invariant-loop-block : goal.invariant-loop-block
invariant-loop-block l = HoldsMarks l.t l.self
