use Rattle.uca_key.proofs.Common.{◌≡◌, ◌+◌, ◌-◌, drop, ◌≤◌, ◌++◌, ℕ, List, length, take, weighted, level_weights, primary_level, StaysBeyond, state_of}
use Rattle.uca_key.proofs.weight_bytes.put_shorts.Given as goal

-- what is put, what is left and what follows are put as all is
abbrev pub invariant-each : goal.invariant-each
invariant-each l = record {
  more : l.fn.from ≤ l.n;
  some : l.n ≤ length l.elements;
  within : l.at + l.fn.from ≤ l.fn.before.at + l.n;
  stays : StaysBeyond l.fn.before.at l.at l.fn.key l.key;
  same : (ws : List ℕ) → take l.at l.key ++ primary_level l.code (state_of l.fn.before.reach) (level_weights 1 (weighted l.v (drop l.n l.elements)) ++ ws) ≡ take l.fn.before.at l.fn.key ++ primary_level l.code (state_of l.fn.before.reach) (level_weights 1 (weighted l.v (drop l.fn.from l.elements)) ++ ws);
}

abbrev pub decreases-each : goal.decreases-each
decreases-each l = length l.elements - l.n
