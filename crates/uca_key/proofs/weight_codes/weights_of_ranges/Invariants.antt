use Rattle.uca_key.proofs.Common.{◌≡◌, map, take, points_of_ranges, primary_of}
use Rattle.uca_key.proofs.weight_codes.weights_of_ranges.Given as goal

abbrev pub invariant-loop-first : goal.invariant-loop-first
invariant-loop-first l = l.weights.items ≡ map (primary_of l.t) (points_of_ranges (take l.first-index l.ranges))
