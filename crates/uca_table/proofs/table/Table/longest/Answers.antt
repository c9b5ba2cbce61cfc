use Rattle.uca_table.proofs.Common.{sym, ap, ◌∙◌, longest}
use Rattle.uca_table.proofs.EntryLemmas.{longest_stored}
use Rattle.uca_table.proofs.table.Table.longest.Goals as goal

pub returns-clause-value : goal.returns-clause-value
returns-clause-value c =
    c.self.invariant.1 ∙ sym (longest_stored _ c.self.inside.ranges c.self.invariant.0.sorted) ∙ ap longest c.self.view_is
