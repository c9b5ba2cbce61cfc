use Rattle.uca_key.proofs.Common.{◌+◌, ◌-◌, ◌≤◌, chars, nfd, levels, weights_of, IsPutting, later_levels, packed_key_by}
use Rattle.uca_key.proofs.packed_levels.put_packed_levels.Given as goal

abbrev pub invariant-each : goal.invariant-each
invariant-each l = record {
  first : 1 ≤ l.level;
  last : l.level ≤ levels l.reading.settings.strength;
  putting : IsPutting l.fn.at l.fn.out l.next l.out (packed_key_by l.code l.reading.table.now l.reading.settings (chars l.reading.text.now)) (later_levels (levels l.reading.settings.strength - l.level) (l.level + 1) (weights_of l.reading) (nfd (chars l.reading.text.now)));
}

abbrev pub decreases-each : goal.decreases-each
decreases-each l = levels l.reading.settings.strength - l.level
