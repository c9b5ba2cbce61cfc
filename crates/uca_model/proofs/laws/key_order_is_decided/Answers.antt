use Rattle.uca_model.proofs.LevelLemmas.{key_order-decided}
use Rattle.uca_model.proofs.WeightLemmas.{HasWeights-IsTable}
use Rattle.uca_model.proofs.laws.key_order_is_decided.Goals as goal

pub returns : goal.returns
returns c = λ t s a b table of_a of_b. key_order-decided t s a b (HasWeights-IsTable t s a table of_a) (HasWeights-IsTable t s b table of_b)
