use Rattle.std.proofs.Common.{sym}
use Rattle.uca_weights.proofs.WeighingLemmas.{weighted-from}
use Rattle.uca_weights.proofs.weigher.Weigher.new.Goals as goal

pub returns-clause-list : goal.returns-clause-list
returns-clause-list c = λ es. sym (weighted-from c.args.v es)
