use Rattle.uca_key.proofs.Common.{◌<◌, ◌++◌, ℕ, List, length, bytes_left, IsPutting, all_own}
use Rattle.uca_key.proofs.runs.put_elements.Given as goal

abbrev pub invariant-pieces : goal.invariant-pieces
invariant-pieces l = record {
  few : l.state.run < 62;
  putting : (at : ℕ) (front whole : List ℕ) (ws : List (List ℕ)) → IsPutting at front l.fn.before.at l.fn.out whole (bytes_left l.level l.fn.before (all_own l.v l.elements ++ ws)) → IsPutting at front l.state.at l.out whole (bytes_left l.level l.state (all_own l.v l.left ++ ws));
}

abbrev pub decreases-pieces : goal.decreases-pieces
decreases-pieces l = length l.left
