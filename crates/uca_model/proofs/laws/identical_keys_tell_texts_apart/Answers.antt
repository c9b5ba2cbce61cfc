use Rattle.uca_model.proofs.EquivalenceLemmas.{identical-keys}
use Rattle.uca_model.proofs.laws.identical_keys_tell_texts_apart.Goals as goal

pub returns : goal.returns
returns c = identical-keys
