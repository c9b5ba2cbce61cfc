use Rattle.uca_table.proofs.Common.{◌≡◌, ◌+◌, ◌≤◌, ◌++◌, length, vec_len, vec_capacity, values_of}
use Rattle.uca_table.proofs.range_map.RangeMap.finish.Given as goal

abbrev pub invariant-loop-range : goal.invariant-loop-range
invariant-loop-range l = record {
  can : (goal.iterator-loop-range).can_next l.range-iterator;
  finite : (goal.iterator-loop-range).is_finite l.range-iterator;
  moved : l.by_first.items ++ values_of l.range-iterator ≡ values_of l.self-inside.by_last.entries;
  room : vec_len l.by_first + length l.range-iterator ≤ vec_capacity l.by_first;
}
