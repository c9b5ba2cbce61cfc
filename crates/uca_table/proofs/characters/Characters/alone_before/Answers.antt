use Rattle.uca_table.proofs.Common.{chars, arith, IfSome_then}
use Rattle.uca_table.proofs.CellLemmas.{alone-by}
use Rattle.uca_table.proofs.characters.Characters.alone_before.Goals as goal
use Rattle.uca_table.proofs.characters.Characters.alone_before.Goals.{else-cell-lt2-via-then-cell-lt2+else-joining_of_text-cell, else-cell-lt2-via-else-cell-lt2}

pub returns : goal.returns
returns c =
    IfSome_then c.elements_of.result c.elements_of.ensures (λ es own. alone-by c.args.self.now.table.now c.args.c (chars c.args.after.now) es.now c.cell-cell.result.now.bearing own c.cell-cell.ensures.bearing
    (λ few n x e. elim c.else-cell-lt2.branch [
      | else-cell-lt2-via-then-cell-lt2+else-joining_of_text-cell w ↦ omega (arith, w.joining_of_text.ensures n x e, w.if-joining_of_text-cell.false)
      | else-cell-lt2-via-else-cell-lt2 w ↦ absurd (omega (arith, few, w.if-cell-lt2.false))
    ]))

pub returns-then-cell-eq1 : goal.returns-then-cell-eq1
returns-then-cell-eq1 c =
    alone-by c.args.self.now.table.now c.args.c (chars c.args.after.now) c.cell-cell.result.now.element c.cell-cell.result.now.bearing (c.cell-cell.ensures.one c.if-cell-eq1.true) c.cell-cell.ensures.bearing
    (λ few n x e. absurd (omega (arith, few, c.if-cell-ge2.true)))
