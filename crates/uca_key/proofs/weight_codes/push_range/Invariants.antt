use Rattle.uca_key.proofs.Common.{◌≡◌, ◌-◌, ◌++◌, map, range_with_len, primary_of}
use Rattle.uca_key.proofs.weight_codes.push_range.Given as goal

abbrev pub invariant-loop-point : goal.invariant-loop-point
invariant-loop-point l = l.weights.items ≡ l.fn.weights.items ++ map (primary_of l.t) (range_with_len l.first (l.point - l.first))
