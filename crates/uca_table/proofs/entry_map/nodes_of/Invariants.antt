use Rattle.uca_table.proofs.Common.{map, AllByRecursion, AreAhead, IsLong, entries_in, keyed, merged, place_at, points_of}
use Rattle.uca_table.proofs.entry_map.nodes_of.Given as goal

abbrev pub invariant-loop-key : goal.invariant-loop-key
invariant-loop-key l = record {
  can : (goal.iterator-loop-key).can_next l.key-iterator;
  finite : (goal.iterator-loop-key).is_finite l.key-iterator;
  long : AllByRecursion IsLong (map keyed l.key-iterator);
  ahead : AreAhead l.elements l.nodes (merged (place_at l.singles) l.next (points_of l.singles) (map keyed l.key-iterator)) (entries_in l.singles l.fn.longer.entries l.elements);
}
