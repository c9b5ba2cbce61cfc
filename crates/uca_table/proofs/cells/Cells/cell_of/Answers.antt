use Rattle.uca_table.proofs.Common.{◌≡◌, ◌<◌, [], ◌∷◌, take, drop, arith, nfd, elements, is_cut-parts, common_steps}
use Rattle.uca_table.proofs.CellLemmas.{taken-fresh}
use Rattle.uca_table.proofs.cells.Cells.cell_of.Goals as goal
use Rattle.uca_table.proofs.cells.Cells.cell_of.Goals.{After-lead_of-element}

-- its elements are those that were appended
are : (c : After-lead_of-element) → 0 < c.extent-start.result.1 → take c.extent-start.result.1 (drop c.extent-start.result.0 c.push_elements.new.self.elements.items) ≡ elements c.args.t.now (nfd (c.args.c ∷ []))
are c some = grind (arith, common_steps, taken-fresh)

pub returns-clause-cell : goal.returns-clause-cell
returns-clause-cell c = grind (arith, common_steps, is_cut-parts, are)
