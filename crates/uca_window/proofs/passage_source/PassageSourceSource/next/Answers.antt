use Rattle.std.proofs.Common.{arith}
use Rattle.uca_window.proofs.SourceLemmas.{stands_next, gives_next}
use Rattle.uca_window.proofs.passage_source.PassageSourceSource.next.Goals as goal
use Rattle.std.proofs.lemmas.Grind.{common_steps}

pub invariant_of-self : goal.invariant_of-self
invariant_of-self c = (stands_next _ c.self.inside.rest c.next.new.self c.next.result c.self.invariant.0 c.next.ensures.steps, c.self.invariant.1)

pub returns : goal.returns
returns c = grind (arith, common_steps, gives_next)
