use Rattle.uca_table.proofs.Common.{◌≡◌, ◌≤◌, ◌<◌, ◌-◌, ◌++◌, length, drop, elements}
use Rattle.uca_table.proofs.collation.push_matches.Given as goal

abbrev pub invariant-matches : goal.invariant-matches
invariant-matches l = record {
  size : length l.text ≡ length l.fn.text;
  within : l.at ≤ length l.text;
  kept : length l.fn.out.items ≤ length l.out.items;
  some : 0 < l.at → length l.fn.out.items < length l.out.items;
  same : l.out.items ++ elements l.t (drop l.at l.text) ≡ l.fn.out.items ++ elements l.t l.fn.text;
}

abbrev pub decreases-matches : goal.decreases-matches
decreases-matches l = length l.text - l.at
