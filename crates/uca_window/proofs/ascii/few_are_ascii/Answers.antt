use Rattle.std.proofs.Common.{arith}
use Rattle.uca_window.proofs.RunScan.{all_ascii}
use Rattle.uca_window.proofs.ascii.few_are_ascii.Goals as goal

pub returns : goal.returns
returns c = all_ascii c.args.bytes.now (λ k h. c.loop-b.invariant k (omega (arith, h, c.loop-b-test.false)))
