use Rattle.std.proofs.Common.{◌≡◌, ◌+◌, ◌-◌, ◌≤◌, length}
use Rattle.uca_window.specs.Utf8.{AreFine}
use Rattle.uca_window.proofs.utf8.are_fine.Given as goal

abbrev pub invariant-each : goal.invariant-each
invariant-each l = record {
  end : l.last + 16 ≡ length l.bytes;
  begun : 2 ≤ l.at;
  within : l.at ≤ l.last;
  fine : AreFine 0 (l.at + 16) l.bytes;
}

abbrev pub decreases-each : goal.decreases-each
decreases-each l = l.last - l.at
