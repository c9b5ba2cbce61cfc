use Rattle.std.proofs.Common.{◌≡◌, ◌+◌, ◌-◌, ◌*◌, ◌<◌, drop, take, length, sym, ap, subst, ◌∙◌, arith}
use Rattle.std.proofs.lemmas.List.{drop-drop, length-drop, take_all}
use Rattle.uca_io.proofs.DigitLemmas.{five_digits}
use Rattle.uca_conform.specs.TestWords.{BeginsWithDigits}
use Rattle.uca_conform.proofs.TestWordLemmas.{DigitsSoFar, digits-push, digits-read}
use Rattle.uca_conform.proofs.test_line.read_digits.Goals as goal

pub overflow_mul-value : goal.overflow_mul-value
overflow_mul-value c =
    let room : c.loop-digit.len < 6 = omega (arith, c.loop-digit.invariant.digits.few, c.in-Some.ensures.some.room) in
    omega (arith, five_digits c.loop-digit.value c.loop-digit.len c.loop-digit.invariant.small room)

pub overflow_add-value : goal.overflow_add-value
overflow_add-value c =
    let room : c.loop-digit.len < 6 = omega (arith, c.loop-digit.invariant.digits.few, c.in-Some.ensures.some.room) in
    omega (arith, five_digits c.loop-digit.value c.loop-digit.len c.loop-digit.invariant.small room, c.in-Some.ensures.some.small)

pub loop-digit-preserved : goal.loop-digit-preserved
loop-digit-preserved c =
    let bytes = c.args.bytes.now in
    let len = c.loop-digit.len in
    let first = c.in-Some.ensures.some in
    let room : len < 6 = omega (arith, c.loop-digit.invariant.digits.few, first.room) in
    subst (λ l. DigitsSoFar bytes (c.loop-digit.value * 16 + c.in-Some.digit) (len + 1) l) (sym (ap (drop 1) first.step) ∙ drop-drop 1 len bytes)
    (digits-push bytes (drop len bytes) first.more c.loop-digit.value len first.byte c.in-Some.digit c.loop-digit.invariant first.step first.is_one first.value first.small room)

pub returns : goal.returns
returns c =
    let bytes = c.args.bytes.now in
    let len = c.loop-digit.len in
    let same : drop len bytes ≡ take (length bytes - len) (drop len bytes) = sym (take_all (length bytes - len) (drop len bytes) (omega (arith, length-drop len bytes))) in
    subst (λ l. BeginsWithDigits bytes c.loop-digit.value len l) same (digits-read bytes (drop len bytes) c.loop-digit.value len c.loop-digit.invariant c.in_default.ensures.none)
