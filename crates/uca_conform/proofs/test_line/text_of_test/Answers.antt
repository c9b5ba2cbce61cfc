use Rattle.std.proofs.Common.{◌≡◌, Bool, true, false, ◌&&◌, sym, subst, ◌∙◌}
use Rattle.uca_model.specs.TestFile.{points_of}
use Rattle.uca_conform.specs.TestReading.{HasPoints}
use Rattle.uca_conform.specs.TestWords.{IsNextPoint}
use Rattle.uca_conform.proofs.TestLineLemmas.{points-push, points-read}
use Rattle.uca_conform.proofs.test_line.text_of_test.Goals as goal

pub loop-point-preserved-then-is_text : goal.loop-point-preserved-then-is_text
loop-point-preserved-then-is_text c =
    let text = c.loop-point.text.text.bytes in
    let new = c.push-is_scalar.new.self.text.bytes in
    let next : IsNextPoint c.loop-point.rest.now c.in-Some.point c.in-Some.others.now = rw c.in-Some.is at c.in_ok-point.ensures.next in
    subst (λ (b : Bool). HasPoints c.args.line.now c.in-Some.others.now new true (b && c.push-is_scalar.result)) c.if-is_text.true
    (points-push c.args.line.now c.loop-point.rest.now c.in-Some.others.now text new c.in-Some.point c.loop-point.is_some c.loop-point.is_text c.push-is_scalar.result
    c.loop-point.invariant next c.push-is_scalar.ensures.is_scalar c.push-is_scalar.ensures.adds c.push-is_scalar.ensures.fits)

pub returns-then-is_text-2-clause-points : goal.returns-then-is_text-2-clause-points
unfolding points_of
returns-then-is_text-2-clause-points c =
    points-read c.args.line.now c.loop-point.rest.now c.loop-point.text.text.bytes c.loop-point.is_some c.loop-point.is_text c.is_safe.result c.loop-point.invariant
    (rw c.in_default.is at c.in_ok-point.ensures.next) c.if-not-is_some.false (λ no_text. (let other : true ≡ false = sym c.if-is_text-2.true ∙ no_text in cc)) (λ _. c.is_safe.ensures)
