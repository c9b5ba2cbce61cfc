use Rattle.uca_table.proofs.MarkLemmas.{later-more, later-none}
use Rattle.uca_table.proofs.marks.MarkTable.mark_later.Goals as goal

pub loop-c-preserved : goal.loop-c-preserved
loop-c-preserved c = record {
  table = c.in_ok-add.ensures.table;
  marks = λ p. later-more _ _ _ _ p _ _ _ c.in-Some.ensures.cases.0 c.later_marks.ensures (c.in_ok-add.ensures.added p) (c.loop-c.invariant.marks p);
}

pub returns-clause-marks : goal.returns-clause-marks
returns-clause-marks c = λ p. later-none _ _ p _ c.in_default.ensures.cases (c.loop-c.invariant.marks p)
