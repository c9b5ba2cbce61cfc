use Rattle.uca_conform.proofs.TestWordLemmas.{point-few, point-large, point-said}
use Rattle.uca_conform.proofs.test_line.point_of.Goals as goal

pub returns-then-len-lt4-clause-value : goal.returns-then-len-lt4-clause-value
returns-then-len-lt4-clause-value c = λ word digits. point-few word c.args.value c.args.len digits c.if-len-lt4.true

pub returns-then-value-gt1114111-clause-value : goal.returns-then-value-gt1114111-clause-value
returns-then-value-gt1114111-clause-value c = λ word digits. point-large word c.args.value c.args.len digits c.if-value-gt1114111.true

pub returns-clause-value : goal.returns-clause-value
returns-clause-value c = λ word digits. point-said word c.args.value c.args.len digits c.if-len-lt4.false c.if-value-gt1114111.false
