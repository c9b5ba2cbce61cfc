use Rattle.std.proofs.Common.{◌≡◌, ◌^◌, ◌-◌, ◌<◌, ◌≤◌}
use Rattle.uca_model.specs.RuleText.{hex_value}
use Rattle.uca_tailor.specs.Scan.{passed}
use Rattle.uca_tailor.proofs.pieces.hex_value.Given as goal

abbrev pub invariant-loop-left : goal.invariant-loop-left
invariant-loop-left l = record {
  value : hex_value l.left l.value l.scanner.left ≡ hex_value l.digits 0 l.fn.scanner.left;
  scan : passed l.left l.scanner ≡ passed l.digits l.fn.scanner;
  small : l.value < 16 ^ (l.digits - l.left);
  few : l.left ≤ l.digits;
}

abbrev pub decreases-loop-left : goal.decreases-loop-left
decreases-loop-left l = l.left
