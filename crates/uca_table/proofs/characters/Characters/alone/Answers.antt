use Rattle.uca_table.proofs.Common.{arith, IfSome_then}
use Rattle.uca_table.proofs.CellLemmas.{alone-by}
use Rattle.uca_table.proofs.characters.Characters.alone.Goals as goal
use Rattle.uca_table.proofs.characters.Characters.alone.Goals.{else-cell-lt2-via-then-cell-lt2+else-joining_of_characters-cell, else-cell-lt2-via-else-cell-lt2}

pub returns : goal.returns
returns c =
    IfSome_then c.elements_of.result c.elements_of.ensures (λ es own. alone-by c.args.self.now.table.now c.args.c c.args.after.now es.now c.cell-cell.result.now.bearing own c.cell-cell.ensures.bearing
    (λ few n x e. elim c.else-cell-lt2.branch [
      | else-cell-lt2-via-then-cell-lt2+else-joining_of_characters-cell w ↦ omega (arith, w.joining_of_characters.ensures n x e, w.if-joining_of_characters-cell.false)
      | else-cell-lt2-via-else-cell-lt2 w ↦ absurd (omega (arith, few, w.if-cell-lt2.false))
    ]))
