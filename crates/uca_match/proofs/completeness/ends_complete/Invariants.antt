use Rattle.std.proofs.Common.{◌≡◌, ◌≤◌, ◌++◌, ℕ, List, length, take, reverse}
use Rattle.uca_model.specs.Prefix.{is_complete_from}
use Rattle.uca_match.proofs.completeness.ends_complete.Given as goal

abbrev pub invariant-loop-n : goal.invariant-loop-n
invariant-loop-n l = record {
  within : l.n ≤ length l.points;
  same : (before : List ℕ) → is_complete_from l.t (reverse (take l.n l.points) ++ before) ≡ is_complete_from l.t (reverse l.points ++ before);
}

abbrev pub decreases-loop-n : goal.decreases-loop-n
decreases-loop-n l = l.n
