use Rattle.std.proofs.Common.{◌≡◌, not, length}
use Rattle.std.specs.List.{take_while}
use Rattle.uca_model.specs.RuleText.{is_line_end}
use Rattle.uca_tailor.specs.Scan.{passed}
use Rattle.uca_tailor.proofs.pieces.skip_comment.Given as goal

abbrev pub invariant-loop-c : goal.invariant-loop-c
invariant-loop-c l = passed (length (take_while (λ c. not (is_line_end c)) l.scanner.left)) l.scanner ≡ passed (length (take_while (λ c. not (is_line_end c)) l.fn.scanner.left)) l.fn.scanner

abbrev pub decreases-loop-c : goal.decreases-loop-c
decreases-loop-c l = length l.scanner.left
