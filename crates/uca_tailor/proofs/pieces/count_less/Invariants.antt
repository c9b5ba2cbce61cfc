use Rattle.std.proofs.Common.{◌≡◌, ◌+◌, ◌≤◌, min, length}
use Rattle.uca_model.specs.RuleText.{less_run}
use Rattle.uca_tailor.specs.Scan.{passed}
use Rattle.uca_tailor.proofs.pieces.count_less.Given as goal

abbrev pub invariant-loop-scanner : goal.invariant-loop-scanner
invariant-loop-scanner l = record {
  count : min 4 (less_run l.scanner.left + l.count) ≡ min 4 (less_run l.fn.scanner.left + 1);
  few : l.count ≤ 4;
  scan : passed (less_run l.scanner.left) l.scanner ≡ passed (less_run l.fn.scanner.left) l.fn.scanner;
}

abbrev pub decreases-loop-scanner : goal.decreases-loop-scanner
decreases-loop-scanner l = length l.scanner.left
