use Rattle.std.proofs.Common.{◌≡◌, length}
use Rattle.uca_levels.specs.Streams.{held_back, held_elements}
use Rattle.uca_levels.proofs.joined_weights.JoinedWeights.held_weight.Given as goal

abbrev pub invariant-held : goal.invariant-held
invariant-held l = record {
  same : held_back l.fn.self ≡ held_back l.self;
  level : l.self.cells.level ≡ l.fn.self.cells.level;
  rest : l.self.cells.rest.now ≡ l.fn.self.cells.rest.now;
  waiting : l.self.cells.waiting.now ≡ l.fn.self.cells.waiting.now;
  given : l.self.given ≡ l.fn.self.given;
}

abbrev pub decreases-held : goal.decreases-held
decreases-held l = length (held_elements l.self)
