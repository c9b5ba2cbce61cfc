use Rattle.uca_model.proofs.SafeCutLemmas.{texts-cut}
use Rattle.uca_model.proofs.laws.texts_are_cut_apart.Goals as goal

pub returns : goal.returns
returns c = texts-cut
