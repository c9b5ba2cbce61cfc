use Rattle.uca_table.proofs.Common.{◌++◌, elements}
use Rattle.uca_table.proofs.ElementLemmas.{elements-done}
use Rattle.uca_table.proofs.collation.push_matches.Goals as goal

pub returns-clause-elements : goal.returns-clause-elements
returns-clause-elements c = elements-done c.args.t.now c.matches.text c.matches.at c.matches.out.items (c.args.out.now.items ++ elements c.args.t.now c.args.text.now) c.matches-test.false c.matches.invariant.same
