use Rattle.uca_key.proofs.Common.{◌-◌, ◌≤◌, ◌++◌, chars, levels, level_list, bytes_at, sort_key, HoldsWeights, IsPutting}
use Rattle.uca_key.proofs.KeyPieces.{tail_of}
use Rattle.uca_key.proofs.placing.put_levels.Given as goal

abbrev pub invariant-each : goal.invariant-each
invariant-each l = record {
  first : 1 ≤ l.level;
  last : l.level ≤ levels l.reading.settings.strength;
  holds : HoldsWeights l.reading l.room;
  putting : IsPutting l.fn.at l.fn.out l.next l.out (sort_key l.reading.table.now l.reading.settings (chars l.reading.text.now))
      (let lists = level_list l.reading.table.now l.reading.settings.weighting (chars l.reading.text.now) in bytes_at l.level (lists l.level) ++ tail_of (levels l.reading.settings.strength - l.level) l.level lists);
}

abbrev pub decreases-each : goal.decreases-each
decreases-each l = levels l.reading.settings.strength - l.level
