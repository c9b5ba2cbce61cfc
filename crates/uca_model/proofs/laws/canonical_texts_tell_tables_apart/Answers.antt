use Rattle.uca_model.proofs.ReadBackLemmas.{canonical-apart}
use Rattle.uca_model.proofs.laws.canonical_texts_tell_tables_apart.Goals as goal

pub returns : goal.returns
returns c = canonical-apart
