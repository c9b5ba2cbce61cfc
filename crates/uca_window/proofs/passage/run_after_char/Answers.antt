use Rattle.std.proofs.Common.{refl, arith}
use Rattle.uca_window.proofs.RunScan.{latin_ends, latin_fits}
use Rattle.uca_window.proofs.passage.run_after_char.Goals as goal

pub returns-then-c-lt192-clause-count : goal.returns-then-c-lt192-clause-count
returns-then-c-lt192-clause-count c = (omega arith, latin_ends c.args.count c.args.c c.if-c-lt192.true)

pub returns-then-c-lt192-clause-fits : goal.returns-then-c-lt192-clause-fits
returns-then-c-lt192-clause-fits c = (λ _. latin_fits c.args.count c.args.c c.requires c.if-c-lt192.true, λ _. refl)
