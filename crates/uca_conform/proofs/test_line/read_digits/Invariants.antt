use Rattle.std.proofs.Common.{◌-◌, drop}
use Rattle.uca_conform.proofs.TestWordLemmas.{DigitsSoFar}
use Rattle.uca_conform.proofs.test_line.read_digits.Given as goal

abbrev pub invariant-loop-digit : goal.invariant-loop-digit
invariant-loop-digit l = DigitsSoFar l.bytes l.value l.len (drop l.len l.bytes)

abbrev pub decreases-loop-digit : goal.decreases-loop-digit
decreases-loop-digit l = 6 - l.len
