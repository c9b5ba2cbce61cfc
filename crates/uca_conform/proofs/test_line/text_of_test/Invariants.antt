use Rattle.std.proofs.Common.{length}
use Rattle.uca_conform.specs.TestReading.{HasPoints}
use Rattle.uca_conform.proofs.test_line.text_of_test.Given as goal

abbrev pub invariant-loop-point : goal.invariant-loop-point
invariant-loop-point l = HasPoints l.line l.rest l.text.text.bytes l.is_some l.is_text

abbrev pub decreases-loop-point : goal.decreases-loop-point
decreases-loop-point l = length l.rest
