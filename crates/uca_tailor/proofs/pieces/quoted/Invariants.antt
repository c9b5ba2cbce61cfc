use Rattle.std.proofs.Common.{length}
use Rattle.uca_tailor.proofs.PieceLemmas.{InQuote}
use Rattle.uca_tailor.proofs.pieces.quoted.Given as goal

abbrev pub invariant-loop-c : goal.invariant-loop-c
invariant-loop-c l = InQuote l.fn.scanner l.fn.string.items l.scanner l.string.items

abbrev pub decreases-loop-c : goal.decreases-loop-c
decreases-loop-c l = length l.scanner.left
