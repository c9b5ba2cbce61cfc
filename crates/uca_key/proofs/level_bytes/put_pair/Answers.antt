use Rattle.uca_key.proofs.Common.{rules}
use Rattle.uca_key.proofs.PlacingLemmas.{PutsAt-pair}
use Rattle.uca_key.proofs.level_bytes.put_pair.Goals as goal

pub returns-clause-puts : goal.returns-clause-puts
returns-clause-puts c = PutsAt-pair c.args.at c.args.pair c.args.out.now (search rules) c.requires (search rules)
