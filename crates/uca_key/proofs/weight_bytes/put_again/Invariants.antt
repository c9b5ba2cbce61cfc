use Rattle.uca_key.proofs.Common.{◌≡◌, length, level_weights, primary_level, start, first_left, weights_left, weights_of, IsPutting, IsWindow}
use Rattle.uca_key.proofs.weight_bytes.put_again.Given as goal

abbrev pub invariant-each : goal.invariant-each
invariant-each l = record {
  weighting : l.left.weighting ≡ l.reading.settings.weighting;
  window : IsWindow l.code l.state.reach.window.now;
  putting : IsPutting l.at l.fn.out l.state.at l.out (primary_level l.code (start l.code) (level_weights 1 (weights_of l.reading))) (first_left l.code l.state (level_weights 1 (weights_left l.left)));
}

abbrev pub decreases-each : goal.decreases-each
decreases-each l = length (weights_left l.left)
