use Rattle.std.proofs.Common.{◌≡◌, take}
use Rattle.uca_levels.proofs.cut.apart_after.Given as goal

abbrev pub invariant-back : goal.invariant-back
invariant-back l = take l.at l.fn.a ≡ take l.at l.fn.b

abbrev pub decreases-back : goal.decreases-back
decreases-back l = l.at
