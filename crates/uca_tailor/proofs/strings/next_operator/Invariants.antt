use Rattle.std.proofs.Common.{◌≡◌, ◌++◌, length}
use Rattle.uca_model.specs.RuleText.{part_faults, string_of}
use Rattle.uca_tailor.specs.Strings.{left_of}
use Rattle.uca_tailor.proofs.StringLemmas.{Skips}
use Rattle.uca_tailor.proofs.strings.next_operator.Given as goal

abbrev pub invariant-pieces : goal.invariant-pieces
invariant-pieces l = record {
  skips : Skips part_faults l.fn.scanner l.scanner;
  string : l.string.items ++ string_of (left_of l.scanner).leading ≡ l.fn.string.items ++ string_of (left_of l.fn.scanner).leading;
}

abbrev pub decreases-pieces : goal.decreases-pieces
decreases-pieces l = length l.scanner.left
