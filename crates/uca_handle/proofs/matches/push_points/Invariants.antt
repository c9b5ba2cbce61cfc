use Rattle.std.proofs.Common.{◌≡◌, ◌++◌, take}
use Rattle.uca_handle.proofs.matches.push_points.Given as goal

abbrev pub invariant-loop-point : goal.invariant-loop-point
invariant-loop-point l = l.out.items ≡ l.fn.out.items ++ take l.point-index l.points
