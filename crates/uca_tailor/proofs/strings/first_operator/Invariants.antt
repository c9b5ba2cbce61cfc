use Rattle.std.proofs.Common.{length}
use Rattle.uca_model.specs.RuleText.{leading_faults}
use Rattle.uca_tailor.proofs.StringLemmas.{Skips}
use Rattle.uca_tailor.proofs.strings.first_operator.Given as goal

abbrev pub invariant-pieces : goal.invariant-pieces
invariant-pieces l = Skips leading_faults l.fn.scanner l.scanner

abbrev pub decreases-pieces : goal.decreases-pieces
decreases-pieces l = length l.scanner.left
