use Rattle.uca_table.proofs.Common.{ℕ, List, ◌++◌, ap, sym, ◌∙◌, arith, on_ok_weaker, elements, nfd-single, nfd-decomposition, common_steps}
use Rattle.uca_table.proofs.CellLemmas.{pushed-ok}
use Rattle.uca_table.proofs.cells.Cells.push_elements.Goals as goal

pub returns-in-len1-clause-elements : goal.returns-in-len1-clause-elements
returns-in-len1-clause-elements c =
    on_ok_weaker c.push_single.result (λ e. e ∙ ap (λ (l : List ℕ). c.args.self.now.elements.items ++ elements c.args.t.now l) (sym (nfd-single c.args.c _ (grind (arith, common_steps))))) c.push_single.ensures

pub returns-clause-elements : goal.returns-clause-elements
returns-clause-elements c = grind (arith, common_steps, nfd-decomposition, pushed-ok)
