use Rattle.uca_key.proofs.Common.{arith}
use Rattle.uca_key.proofs.MaskLemmas.{low-zeros}
use Rattle.uca_key.proofs.runs.count_run.Goals as goal

pub returns-clause-zeros : goal.returns-clause-zeros
returns-clause-zeros c = λ i below. low-zeros c.args.others c.min.result i c.ranges.others.fits (omega arith) below
