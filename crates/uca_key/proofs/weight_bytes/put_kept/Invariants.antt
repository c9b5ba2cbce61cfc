use Rattle.uca_key.proofs.Common.{◌≡◌, ◌+◌, ◌-◌, drop, ◌*◌, ◌≤◌, ◌++◌, ℕ, List, length, take, weighted, level_weights, primary_level, StaysBeyond, state_of}
use Rattle.uca_key.proofs.weight_bytes.put_kept.Given as goal

-- what is put, what is left and what follows are put as all is
abbrev pub invariant-runs : goal.invariant-runs
invariant-runs l = record {
  within : l.at + 3 * l.fn.from ≤ l.fn.before.at + 3 * l.n;
  more : l.fn.from ≤ l.n;
  some : l.n ≤ length l.elements;
  stays : StaysBeyond l.fn.before.at l.at l.fn.key l.key;
  same : (ws : List ℕ) → take l.at l.key ++ primary_level l.code (state_of l.fn.before.reach) (level_weights 1 (weighted l.v (drop l.n l.elements)) ++ ws) ≡ take l.fn.before.at l.fn.key ++ primary_level l.code (state_of l.fn.before.reach) (level_weights 1 (weighted l.v (drop l.fn.from l.elements)) ++ ws);
}

abbrev pub decreases-runs : goal.decreases-runs
decreases-runs l = length l.elements - l.n
