use Rattle.uca_tailor.proofs.ChainLemmas.{neighbours-come}
use Rattle.uca_tailor.proofs.laws.neighbours_come_as_written.Goals as goal

pub returns : goal.returns
returns c = neighbours-come
