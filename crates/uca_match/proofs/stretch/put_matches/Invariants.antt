use Rattle.std.proofs.Common.{◌≡◌, ◌≤◌, ◌-◌, ◌++◌, length, take, drop}
use Rattle.uca_model.specs.CollationElements.{elements}
use Rattle.uca_match.proofs.stretch.put_matches.Given as goal

abbrev pub invariant-matches : goal.invariant-matches
invariant-matches l = record {
  points : length l.points ≡ length l.fn.points;
  inside : l.next ≤ length l.points;
  later : l.from ≤ l.at;
  within : l.at ≤ length l.room;
  kept : take l.from l.room ≡ take l.from l.fn.room;
  same : take l.at l.room ++ elements l.t (drop l.next l.points) ≡ take l.from l.fn.room ++ elements l.t l.fn.points;
  size : length l.room ≡ length l.fn.room;
}

abbrev pub decreases-matches : goal.decreases-matches
decreases-matches l = length l.points - l.next
