use Rattle.std.proofs.Common.{◌≡◌, ◌+◌, ◌-◌, ◌≤◌, length}
use Rattle.uca_window.specs.Ascii.{IsAsciiFrom}
use Rattle.uca_window.proofs.ascii.is_ascii.Given as goal

abbrev pub invariant-each : goal.invariant-each
invariant-each l = record {
  end : l.last + 16 ≡ length l.bytes;
  within : l.at ≤ l.last;
  ascii : IsAsciiFrom 0 (l.at + 16) l.bytes;
}

abbrev pub decreases-each : goal.decreases-each
decreases-each l = l.last - l.at
