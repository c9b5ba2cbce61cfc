use Rattle.uca_table.proofs.EntryLemmas.{found_stored}
use Rattle.uca_table.proofs.table.Table.get.Goals as goal

pub returns : goal.returns
returns c =
    let is = found_stored _ _ _ _ c.args.key.now c.get.result c.self.invariant.0 c.self.invariant.2 c.self.view_is c.get.ensures in
    record { value = is.value; some = is.some; few = is.few; elements = is.elements }
