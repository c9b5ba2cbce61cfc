use Rattle.std.proofs.Common.{◌≡◌, ◌+◌, ◌-◌, ◌*◌, ◌^◌, ◌<◌, sym, ap, subst, ◌∙◌, arith}
use Rattle.uca_model.specs.RuleText.{hex_value}
use Rattle.uca_model.proofs.NumberLemmas.{digit_more}
use Rattle.uca_tailor.proofs.PieceLemmas.{passed-taken, hex_more, hex_stops, seven_digits}
use Rattle.uca_tailor.specs.Scan.{passed}
use Rattle.uca_tailor.proofs.pieces.hex_value.Goals as goal

pub returns-in_err-digit-clause-value : goal.returns-in_err-digit-clause-value
returns-in_err-digit-clause-value c =
    c.from_residual-in_err-digit.ensures
    ∙ sym (hex_stops c.loop-left.left (c.loop-left.left - 1) c.loop-left.value c.in_ok-c.c c.loop-left.scanner c.next.new.self (omega (arith, c.loop-left-test.true)) c.in_ok-c.ensures.0 c.in_err-digit.ensures.value)
    ∙ c.loop-left.invariant.value

pub overflow_mul-value : goal.overflow_mul-value
overflow_mul-value c = omega (arith, seven_digits c.loop-left.value (c.args.digits - c.loop-left.left) c.loop-left.invariant.small (omega (arith, c.requires, c.loop-left-test.true)))

pub overflow_add-value : goal.overflow_add-value
overflow_add-value c = omega (arith, seven_digits c.loop-left.value (c.args.digits - c.loop-left.left) c.loop-left.invariant.small (omega (arith, c.requires, c.loop-left-test.true)), c.in_ok-digit.ensures.value.0, c.in_ok-digit.ensures.value.1)

pub loop-left-preserved : goal.loop-left-preserved
loop-left-preserved c =
    let m = c.loop-left.left - 1 in
    let e : c.loop-left.left ≡ m + 1 = omega (arith, c.loop-left-test.true) in
    let digit = c.in_ok-digit.ensures.value in
    let low : c.in_ok-digit.digit < 16 = omega (arith, digit.0, digit.1) in
    record {
      value = ap (λ d. hex_value m (c.loop-left.value * 16 + d) c.next.new.self.left) digit.1 ∙ hex_more c.loop-left.left m c.loop-left.value c.in_ok-c.c c.loop-left.scanner c.next.new.self e c.in_ok-c.ensures.0 digit.0 ∙ c.loop-left.invariant.value;
      scan = sym (passed-taken m c.loop-left.scanner c.next.new.self c.in_ok-c.ensures.1) ∙ ap (λ k. passed k c.loop-left.scanner) (sym e) ∙ c.loop-left.invariant.scan;
      small = subst (λ k. c.loop-left.value * 16 + c.in_ok-digit.digit < 16 ^ k) (let f : (c.args.digits - c.loop-left.left) + 1 ≡ c.args.digits - m = omega (arith, c.loop-left-test.true, c.loop-left.invariant.few) in f) (digit_more c.loop-left.value c.in_ok-digit.digit (c.args.digits - c.loop-left.left) c.loop-left.invariant.small low);
      few = omega (arith, c.loop-left.invariant.few);
    }
