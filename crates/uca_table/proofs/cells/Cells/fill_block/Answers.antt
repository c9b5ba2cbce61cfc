use Rattle.uca_table.proofs.Common.{◌<◌, ◌/◌, get_or, ap, arith, ◌∙◌, place, common_steps}
use Rattle.uca_table.specs.declared.cells.Cells.{Cells}
use Rattle.uca_table.proofs.CellLemmas.{AreCells-put}
use Rattle.uca_table.proofs.cells.Cells.fill_block.Goals as goal

pub loop-point-preserved : goal.loop-point-preserved
loop-point-preserved c =
    let old : Cells = c.loop-point.self in
    let own : 0 < get_or old.marks.blocks.numbers.items (c.in-Some.c / 128) 0 = grind (arith, common_steps) in
    record {
      upto = omega arith;
      cells =
          rw c.in_ok-cell.ensures.others (
            c.loop-point.invariant.cells.0,
            AreCells-put c.args.t.now old.elements.items c.cell_of.new.self.elements.items old.marks.blocks old.cells.items c.in-Some.c c.place-at.result c.in_ok-cell.cell c.loop-point.invariant.cells.0.0.blocks (grind (arith, common_steps)) own
                (c.place-at.ensures.place ∙ ap (λ (k : Cells). place k.marks.blocks.numbers.items c.in-Some.c) c.in_ok-cell.ensures.others) c.in_ok-cell.ensures.grows c.in_ok-cell.ensures.cell c.loop-point.invariant.cells.1,
          );
      blocks = ap (λ (k : Cells). k.marks.blocks.numbers.items) c.in_ok-cell.ensures.others ∙ c.loop-point.invariant.blocks;
    }
