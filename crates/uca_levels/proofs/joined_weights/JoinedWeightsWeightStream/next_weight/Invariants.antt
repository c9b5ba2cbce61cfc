use Rattle.std.proofs.Common.{◌≡◌, None, length}
use Rattle.uca_levels.specs.Streams.{held_back, weights_left}
use Rattle.uca_levels.proofs.joined_weights.JoinedWeightsWeightStream.next_weight.Given as goal

abbrev pub invariant-characters : goal.invariant-characters
invariant-characters l = record {
  same : weights_left l.fn.self ≡ held_back l.self;
  given : l.self.given ≡ None;
  level : l.self.cells.level ≡ l.fn.self.cells.level;
}

abbrev pub decreases-characters : goal.decreases-characters
decreases-characters l = length l.self.cells.rest.now
