use Rattle.uca_model.proofs.EquivalenceLemmas.{strengths-refine}
use Rattle.uca_model.proofs.laws.strengths_refine.Goals as goal

pub returns : goal.returns
returns c = strengths-refine
