use Rattle.std.specs.FinSet.{contains}
use Rattle.uca_match.proofs.KeyLemmas.{matches-done}
use Rattle.uca_match.proofs.matches.push_matches.Goals as goal

pub returns : goal.returns
returns g c = matches-done (contains (g.K.Keys.keys c.args.keys.now)) c.matches.text c.matches.at c.matches.all.items _ c.matches-test.false c.matches.invariant.same
