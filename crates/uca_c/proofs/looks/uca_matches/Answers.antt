use Rattle.std.proofs.Common.{rules}
use Rattle.uca_c.proofs.looks.uca_matches.Goals as goal

pub returns-clause-matches : goal.returns-clause-matches
returns-clause-matches c = search rules
