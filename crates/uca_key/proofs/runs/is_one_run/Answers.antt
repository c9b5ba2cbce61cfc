use Rattle.uca_key.proofs.Common.{arith, nat_tests}
use Rattle.uca_key.proofs.MaskLemmas.{low-zeros}
use Rattle.uca_key.proofs.runs.is_one_run.Goals as goal

pub returns-then-elements-lt-FULL_RUN-clause-zeros : goal.returns-then-elements-lt-FULL_RUN-clause-zeros
returns-then-elements-lt-FULL_RUN-clause-zeros c = λ one i below. low-zeros c.args.others c.args.elements i c.ranges.others.fits (grind (arith, nat_tests, one)) below
