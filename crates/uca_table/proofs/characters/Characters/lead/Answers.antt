use Rattle.uca_table.proofs.Common.{◌≤◌, refl, arith, nat_tests}
use Rattle.uca_table.proofs.CellLemmas.{alone-by}
use Rattle.uca_table.proofs.characters.Characters.lead.Goals as goal

pub returns-clause-alone : goal.returns-clause-alone
returns-clause-alone c = λ after.
    let bears : 2 ≤ c.cell-cell.result.now.bearing = grind (arith, nat_tests) in
    alone-by c.args.self.now.table.now c.args.c after _ c.cell-cell.result.now.bearing refl c.cell-cell.ensures.bearing (λ few n x e. absurd (omega (arith, few, bears)))
