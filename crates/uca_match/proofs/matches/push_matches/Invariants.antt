use Rattle.std.proofs.Common.{◌≡◌, ◌≤◌, ◌-◌, ◌++◌, length, drop, map}
use Rattle.std.specs.FinSet.{contains}
use Rattle.uca_model.specs.CollationElements.{matches}
use Rattle.uca_match.specs.Matches.{match_of}
use Rattle.uca_match.proofs.matches.push_matches.Given as goal

abbrev pub invariant-matches : goal.invariant-matches
invariant-matches g l = record {
  size : length l.text ≡ length l.fn.text;
  within : l.at ≤ length l.text;
  same : map match_of l.all.items ++ matches (contains (g.K.Keys.keys l.keys)) (drop l.at l.text) ≡ map match_of l.fn.all.items ++ matches (contains (g.K.Keys.keys l.keys)) l.fn.text;
}

abbrev pub decreases-matches : goal.decreases-matches
decreases-matches g l = length l.text - l.at
