use Rattle.std.proofs.Common.{arith, refl}
use Rattle.uca_window.proofs.RunScan.{passed_start, passed_over, passed_skip, utf8_left, skips_shorter, safe_end}
use Rattle.uca_window.proofs.passage.scan.Goals as goal
use Rattle.std.proofs.lemmas.Grind.{common_steps}

pub passed-init : goal.passed-init
passed-init c = (c.utf8.text, passed_start c.args.text.now 0 (omega arith))

pub skip-requires : goal.skip-requires
skip-requires c = (passed_over c.args.text.now c.passed.rest.now c.pass-end.result.0.now c.passed.last c.pass-end.result.1 c.passed.invariant.1 c.pass-end.ensures).passed

pub passed-smaller-in-Some : goal.passed-smaller-in-Some
passed-smaller-in-Some c = skips_shorter c.passed.rest.now c.pass-end.result.0.now c.in-Some.more.now c.passed.last c.pass-end.result.1 c.in-Some.passed c.pass-end.ensures c.in-Some.ensures

pub passed-preserved-in-Some : goal.passed-preserved-in-Some
passed-preserved-in-Some c =
    let at = passed_over c.args.text.now c.passed.rest.now _ c.passed.last c.pass-end.result.1 c.passed.invariant.1 c.pass-end.ensures in
    let to = passed_skip c.args.text.now _ c.in-Some.more.now c.pass-end.result.1 c.in-Some.passed at c.in-Some.ensures in
    (utf8_left c.args.text.now c.in-Some.more.now _ to.to c.utf8.text, to)

pub count_marks-requires : goal.count_marks-requires
count_marks-requires c = grind (arith, common_steps, passed_over)

pub returns-clause-safe : goal.returns-clause-safe
returns-clause-safe c = (λ _. safe_end c.args.text.now c.passed.rest.now c.passed.last c.passed.invariant.1 c.utf8.text (omega (arith, c.passed-test.false)), λ _. refl)
