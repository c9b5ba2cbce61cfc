use Rattle.uca_table.proofs.Common.{◌∷◌, []}
use Rattle.uca_table.proofs.EntryLemmas.{found_stored}
use Rattle.uca_table.proofs.table.Table.get_near.Goals as goal

pub returns : goal.returns
returns c =
    let is = found_stored _ _ _ _ (c.args.point ∷ []) c.get_near.result c.self.invariant.0 c.self.invariant.2 c.self.view_is c.get_near.ensures in
    record { value = is.value; some = is.some }
