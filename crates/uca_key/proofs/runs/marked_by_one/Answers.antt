use Rattle.uca_key.proofs.Common.{refl}
use Rattle.uca_key.proofs.MaskLemmas.{others-marked}
use Rattle.uca_key.proofs.runs.marked_by_one.Goals as goal

pub returns : goal.returns
returns c = others-marked c.args.v c.args.level _ _ c.others_of.ensures refl
