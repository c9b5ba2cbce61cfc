use Rattle.uca_model.proofs.OrderLemmas.{levels_order}
use Rattle.uca_model.proofs.laws.keys_follow_levels.Goals as goal

pub returns : goal.returns
returns c = levels_order
