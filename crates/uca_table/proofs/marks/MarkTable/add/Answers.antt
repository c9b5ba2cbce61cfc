use Rattle.uca_table.proofs.Common.{arith, common_steps}
use Rattle.uca_table.proofs.marks.MarkTable.add.Goals as goal

pub returns-clause-table : goal.returns-clause-table
returns-clause-table c = record { all = grind (arith, common_steps); blocks = c.put.ensures.blocks _ c.in_ok-own.ensures.blocks }
