use Rattle.uca_table.proofs.Common.{◌-◌, ◌++◌, map, AreAhead, entry_in, place_at, points_from}
use Rattle.uca_table.proofs.entry_map.push_singles.Given as goal

abbrev pub invariant-loop-point : goal.invariant-loop-point
invariant-loop-point l = AreAhead l.elements l.entries (points_from (place_at l.singles) l.point (l.end - l.point)) (l.fn.entries ++ map (entry_in l.elements) (points_from (place_at l.singles) l.from (l.end - l.from)))

abbrev pub decreases-loop-point : goal.decreases-loop-point
decreases-loop-point l = l.end - l.point
