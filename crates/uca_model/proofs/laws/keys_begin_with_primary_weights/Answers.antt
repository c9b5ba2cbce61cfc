use Rattle.uca_model.proofs.PrefixKeys.{keys-alike}
use Rattle.uca_model.proofs.laws.keys_begin_with_primary_weights.Goals as goal

pub returns : goal.returns
returns c = keys-alike
