use Rattle.uca_model.proofs.PrefixKeys.{keys-begin}
use Rattle.uca_model.proofs.laws.keys_begin_with_complete_texts.Goals as goal

pub returns : goal.returns
returns c = keys-begin
