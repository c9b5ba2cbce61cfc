use Rattle.std.proofs.Common.{◌≡◌, ◌≤◌, ◌-◌, true, length}
use Rattle.uca_model.specs.Table.{is_key}
use Rattle.uca_table.specs.Walk.{path_of, table_of_walk}
use Rattle.uca_match.specs.WindowMatch.{IsTaking}
use Rattle.uca_match.proofs.window_match.take_nonstarters.Given as goal

abbrev pub invariant-loop-at : goal.invariant-loop-at
invariant-loop-at l = record {
  taking : IsTaking (is_key (table_of_walk l.fn.walk)) l.start (path_of l.fn.walk) l.fn.window (path_of l.walk) l.window l.at l.high;
  table : table_of_walk l.walk ≡ table_of_walk l.fn.walk;
  longer : length (path_of l.fn.walk) ≤ length (path_of l.walk);
  key : is_key (table_of_walk l.fn.walk) (path_of l.fn.walk) ≡ true → is_key (table_of_walk l.fn.walk) (path_of l.walk) ≡ true;
}

abbrev pub decreases-loop-at : goal.decreases-loop-at
decreases-loop-at l = l.window.closed - l.at
