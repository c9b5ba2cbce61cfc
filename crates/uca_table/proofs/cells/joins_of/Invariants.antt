use Rattle.uca_table.proofs.Common.{◌≤◌, take, bearing_of}
use Rattle.uca_table.proofs.cells.joins_of.Given as goal

abbrev pub invariant-loop-at : goal.invariant-loop-at
invariant-loop-at l = l.bearing ≤ bearing_of l.t (take l.at l.points)
