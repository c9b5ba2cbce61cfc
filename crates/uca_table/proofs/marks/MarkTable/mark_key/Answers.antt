use Rattle.uca_table.proofs.MarkLemmas.{key-said, none-said}
use Rattle.uca_table.proofs.marks.MarkTable.mark_key.Goals as goal

pub returns-in_default-clause-marks : goal.returns-in_default-clause-marks
returns-in_default-clause-marks c = λ p. none-said _ _ p _ _ c.in_default.ensures.cases

pub returns-clause-marks : goal.returns-clause-marks
returns-clause-marks c = λ p.
    key-said _ _ _ _ _ p _ _ _ _ c.in-Some.ensures.cases.0 c.first_marks.ensures (c.in_ok-add.ensures.added p) (c.in_ok-mark_later.ensures.marks p)
