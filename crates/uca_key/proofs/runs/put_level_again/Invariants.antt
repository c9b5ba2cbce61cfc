use Rattle.uca_key.proofs.Common.{◌≡◌, ◌<◌, length, packed_level, weights_left, weights_of, IsPutting, bytes_left}
use Rattle.uca_key.proofs.runs.put_level_again.Given as goal

abbrev pub invariant-each : goal.invariant-each
invariant-each l = record {
  weighting : l.left.weighting ≡ l.reading.settings.weighting;
  few : l.state.run < 62;
  putting : IsPutting l.at l.fn.out l.state.at l.out (packed_level (weights_of l.reading) l.level) (bytes_left l.level l.state (weights_left l.left));
}

abbrev pub decreases-each : goal.decreases-each
decreases-each l = length (weights_left l.left)
