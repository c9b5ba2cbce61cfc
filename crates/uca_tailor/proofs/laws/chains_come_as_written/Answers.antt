use Rattle.uca_tailor.proofs.ChainLemmas.{chains-come}
use Rattle.uca_tailor.proofs.laws.chains_come_as_written.Goals as goal

pub returns : goal.returns
returns c = chains-come
