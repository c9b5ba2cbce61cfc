use Rattle.std.proofs.Common.{◌≡◌, ◌≤◌, ◌+◌, length}
use Rattle.uca_levels.specs.Streams.{cell_elements_left, cell_weights_left, SameKind}
use Rattle.uca_levels.proofs.cell_weights.CellWeights.next.Given as goal

abbrev pub invariant-loop-first : goal.invariant-loop-first
invariant-loop-first l = record {
  same : cell_weights_left l.fn.self ≡ cell_weights_left l.self;
  kind : SameKind l.fn.self l.self;
  shorter : length l.self.rest.now ≤ length l.fn.self.rest.now;
}

abbrev pub decreases-loop-first : goal.decreases-loop-first
decreases-loop-first l = length l.self.rest.now + length (cell_elements_left l.self)
