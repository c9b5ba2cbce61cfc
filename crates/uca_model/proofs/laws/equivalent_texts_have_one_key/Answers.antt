use Rattle.uca_model.proofs.EquivalenceLemmas.{equivalent-keys}
use Rattle.uca_model.proofs.laws.equivalent_texts_have_one_key.Goals as goal

pub returns : goal.returns
returns c = equivalent-keys
