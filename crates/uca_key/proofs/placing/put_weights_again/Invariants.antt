use Rattle.uca_key.proofs.Common.{◌≡◌, length, level_bytes, weights_left, weights_of, IsPutting}
use Rattle.uca_key.proofs.placing.put_weights_again.Given as goal

abbrev pub invariant-each : goal.invariant-each
invariant-each l = record {
  weighting : l.left.weighting ≡ l.reading.settings.weighting;
  putting : IsPutting l.at l.fn.out l.next l.out (level_bytes (weights_of l.reading) l.level) (level_bytes (weights_left l.left) l.level);
}

abbrev pub decreases-each : goal.decreases-each
decreases-each l = length (weights_left l.left)
