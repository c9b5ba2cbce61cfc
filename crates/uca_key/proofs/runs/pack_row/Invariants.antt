use Rattle.uca_key.proofs.Common.{◌≡◌, ◌+◌, ◌*◌, ◌-◌, ◌<◌, ◌≤◌, ◌++◌, ℕ, List, drop, length, take, level_weights, common_weight, runs_after, StaysBeyond, all_own}
use Rattle.uca_key.proofs.runs.pack_row.Given as goal

-- what is packed, what is left and what follows are packed as all is
abbrev pub invariant-each : goal.invariant-each
invariant-each l = record {
  few : l.packed.run < 62;
  some : l.n ≤ length l.elements;
  within : l.packed.at ≤ l.fn.before.at + 4 * l.n;
  stays : StaysBeyond l.fn.before.at l.packed.at l.fn.key l.key;
  same : (ws : List ℕ) → take l.packed.at l.key ++ runs_after (common_weight l.level) l.packed.run (level_weights l.level (all_own l.v (drop l.n l.elements)) ++ ws) ≡ take l.fn.before.at l.fn.key ++ runs_after (common_weight l.level) l.fn.before.run (level_weights l.level (all_own l.v l.elements) ++ ws);
}

abbrev pub decreases-each : goal.decreases-each
decreases-each l = length l.elements - l.n
