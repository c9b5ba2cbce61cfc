use Rattle.uca_table.proofs.Common.{◌≡◌, ◌≤◌, HoldsCells}
use Rattle.uca_table.proofs.cells.Cells.fill_block.Given as goal

abbrev pub invariant-loop-point : goal.invariant-loop-point
invariant-loop-point l = record {
  upto : l.first ≤ l.point;
  cells : HoldsCells l.t l.self;
  blocks : l.self.marks.blocks.numbers.items ≡ l.fn.self.marks.blocks.numbers.items;
}
