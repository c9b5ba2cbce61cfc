use Rattle.std.proofs.Common.{◌-◌, ◌+◌, ◌≤◌, chars}
use Rattle.uca_weights.specs.Settings.{levels}
use Rattle.uca_levels.specs.FromCut.{Undecided}
use Rattle.uca_levels.proofs.text_order.order_by_weights.Given as goal

-- the levels before this one are the same
abbrev pub invariant-each : goal.invariant-each
invariant-each l = record {
  first : 1 ≤ l.level;
  last : l.level ≤ levels l.s.strength + 1;
  undecided : Undecided l.t l.s (chars l.fn.a) (chars l.fn.b) l.level;
}

abbrev pub decreases-each : goal.decreases-each
decreases-each l = levels l.s.strength + 1 - l.level
