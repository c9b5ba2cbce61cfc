use Rattle.uca_model.proofs.ReadBackLemmas.{canonical-read_back}
use Rattle.uca_model.proofs.laws.canonical_text_is_read_back.Goals as goal

pub returns : goal.returns
returns c = canonical-read_back
