use Rattle.uca_tailor.proofs.counts.exchange.Goals as goal

pub returns-clause-reach : goal.returns-clause-reach
returns-clause-reach c = λ n h. c.add.ensures.reach n (c.take.ensures.reach n h)
