use Rattle.std.proofs.Common.{arith}
use Rattle.uca_io.proofs.DigitLemmas.{five_digits}
use Rattle.uca_io.proofs.digits.number.Goals as goal

pub overflow_mul-said : goal.overflow_mul-said
overflow_mul-said c = omega (arith, five_digits c.loop-byte.said c.loop-byte.byte-index c.loop-byte.invariant.small (omega arith))

pub overflow_add-said : goal.overflow_add-said
overflow_add-said c = omega (arith, five_digits c.loop-byte.said c.loop-byte.byte-index c.loop-byte.invariant.small (omega arith), c.in-Some.ensures.value.0, c.in-Some.ensures.value.1)
