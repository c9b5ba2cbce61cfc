use Rattle.uca_cli.specs.Performing.{settings_of}
use Rattle.uca_cli.proofs.performing.work.Goals as goal

pub returns-in-Lint-clause-fault : goal.returns-in-Lint-clause-fault
returns-in-Lint-clause-fault g c = rw (c.in-Lint.is) (c.run-in-Lint.ensures.fault (settings_of c.args.job.now) (g.I.Reader.state c.args.input.now))

pub returns-in-Table-clause-fault : goal.returns-in-Table-clause-fault
returns-in-Table-clause-fault g c = rw (c.in-Table.is) (c.run-in-Table.ensures.fault (settings_of c.args.job.now) (g.I.Reader.state c.args.input.now))
