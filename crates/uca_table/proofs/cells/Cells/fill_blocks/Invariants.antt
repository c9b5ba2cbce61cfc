use Rattle.uca_table.proofs.Common.{HoldsCells}
use Rattle.uca_table.proofs.cells.Cells.fill_blocks.Given as goal

abbrev pub invariant-loop-block : goal.invariant-loop-block
invariant-loop-block l = HoldsCells l.t l.self
