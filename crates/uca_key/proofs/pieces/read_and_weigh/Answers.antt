use Rattle.uca_key.proofs.Common.{arith, unwrap_or, eqb-true, append-nil, nil_from_length, length-take-le, take-append-le, take_all, chars-nil, common_steps}
use Rattle.uca_model.proofs.StandAloneLemmas.{elements_none}
use Rattle.uca_key.proofs.pieces.read_and_weigh.Goals as goal

pub returns : goal.returns
returns c x is = grind (arith, common_steps, nil_from_length, eqb-true, chars-nil, elements_none, append-nil, length-take-le, unwrap_or, take-append-le, take_all)
