use Rattle.std.proofs.Common.{◌≡◌, length}
use Rattle.uca_levels.specs.Reads.{InStep}
use Rattle.uca_levels.proofs.stream.order_of.Given as goal

abbrev pub invariant-loop-x : goal.invariant-loop-x
invariant-loop-x g l = record {
  level_a : g.L.WeightStream.level l.left ≡ g.L.WeightStream.level l.fn.left;
  level_b : g.R.WeightStream.level l.right ≡ g.R.WeightStream.level l.fn.right;
  lists : InStep (g.L.WeightStream.left l.fn.left) (g.R.WeightStream.left l.fn.right) (g.L.WeightStream.left l.left) (g.R.WeightStream.left l.right);
}

abbrev pub decreases-loop-x : goal.decreases-loop-x
decreases-loop-x g l = length (g.L.WeightStream.left l.left)
