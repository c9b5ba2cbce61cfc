use Rattle.uca_key.proofs.Common.{◌≡◌, ◌+◌, ◌-◌, drop, ◌*◌, ◌≤◌, ◌++◌, ℕ, List, length, take, weighted, level_weights, primary_level, StaysBeyond, state_of, IsWindow}
use Rattle.uca_key.proofs.weight_bytes.put_each.Given as goal

-- what is put, what is left and what follows are put as all is
abbrev pub invariant-each : goal.invariant-each
invariant-each l = record {
  window : IsWindow l.code l.step.placed.reach.window.now;
  within : l.step.placed.at ≤ l.fn.before.at + 3 * l.step.elements;
  some : l.step.elements ≤ length l.elements;
  stays : StaysBeyond l.fn.before.at l.step.placed.at l.fn.key l.key;
  same : (ws : List ℕ) → take l.step.placed.at l.key ++ primary_level l.code (state_of l.step.placed.reach) (level_weights 1 (weighted l.v (drop l.step.elements l.elements)) ++ ws) ≡ take l.fn.before.at l.fn.key ++ primary_level l.code (state_of l.fn.before.reach) (level_weights 1 (weighted l.v l.elements) ++ ws);
}

abbrev pub decreases-each : goal.decreases-each
decreases-each l = length l.elements - l.step.elements
