use Rattle.uca_table.proofs.Common.{arith, IfSome_then}
use Rattle.uca_table.proofs.CellLemmas.{alone-by}
use Rattle.uca_table.proofs.characters.Characters.always_alone.Goals as goal

pub returns : goal.returns
returns c =
    IfSome_then c.elements_of.result c.elements_of.ensures (λ es own after. alone-by c.args.self.now.table.now c.args.c after es.now c.cell-cell.result.now.bearing own c.cell-cell.ensures.bearing
    (λ few n x e. absurd (omega (arith, few, c.if-cell-lt2.false))))
