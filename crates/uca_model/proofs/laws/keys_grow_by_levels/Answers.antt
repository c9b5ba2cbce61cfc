use Rattle.uca_model.proofs.GrowingLemmas.{keys-grow}
use Rattle.uca_model.proofs.laws.keys_grow_by_levels.Goals as goal

pub returns : goal.returns
returns c = keys-grow
