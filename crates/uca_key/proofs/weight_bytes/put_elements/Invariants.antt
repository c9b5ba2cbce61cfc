use Rattle.uca_key.proofs.Common.{◌≡◌, ◌++◌, ℕ, List, length, level_weights, first_left, IsPutting, IsWindow, all_own}
use Rattle.uca_key.proofs.weight_bytes.put_elements.Given as goal

abbrev pub invariant-pieces : goal.invariant-pieces
invariant-pieces l = record {
  window : IsWindow l.code l.state.reach.window.now;
  bytes : length l.bytes ≡ 192;
  putting : (at : ℕ) (front whole ws : List ℕ) → IsPutting at front l.fn.before.at l.fn.out whole (first_left l.code l.fn.before (level_weights 1 (all_own l.v l.elements) ++ ws)) → IsPutting at front l.state.at l.out whole (first_left l.code l.state (level_weights 1 (all_own l.v l.left) ++ ws));
}

abbrev pub decreases-pieces : goal.decreases-pieces
decreases-pieces l = length l.left
