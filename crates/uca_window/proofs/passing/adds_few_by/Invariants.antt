use Rattle.std.proofs.Common.{◌≡◌, ◌+◌, ◌-◌, ◌≤◌, length, drop}
use Rattle.uca_window.specs.Passing.{added_by}
use Rattle.uca_window.specs.declared.passing.TheConstants.{STRIDE}
use Rattle.uca_window.proofs.passing.adds_few_by.Given as goal

abbrev pub invariant-each : goal.invariant-each
invariant-each l = record {
  end : l.last + 32 ≡ length l.bytes;
  within : l.at ≤ l.last;
  counted : added_by l.coarsely l.bytes ≤ l.count + added_by l.coarsely (drop l.at l.bytes);
  few : l.count ≤ STRIDE;
}

abbrev pub decreases-each : goal.decreases-each
decreases-each l = l.last - l.at
