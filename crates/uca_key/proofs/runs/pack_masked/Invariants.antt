use Rattle.uca_key.proofs.Common.{◌≡◌, ◌+◌, ◌*◌, ◌<◌, ◌≤◌, ◌++◌, ℕ, List, length, take, level_weights, common_weight, runs_after, StaysBeyond, AreMarked, all_own}
use Rattle.uca_key.proofs.runs.pack_masked.Given as goal

-- what is packed, what is left and what follows are packed as all is
abbrev pub invariant-runs : goal.invariant-runs
invariant-runs l = record {
  few : l.packed.run < 62;
  marked : AreMarked l.v l.level l.mask l.left;
  small : length l.left ≤ 64;
  within : l.packed.at + 4 * length l.left ≤ l.fn.before.at + 4 * length l.elements;
  stays : StaysBeyond l.fn.before.at l.packed.at l.fn.key l.key;
  same : (ws : List ℕ) → take l.packed.at l.key ++ runs_after (common_weight l.level) l.packed.run (level_weights l.level (all_own l.v l.left) ++ ws) ≡ take l.fn.before.at l.fn.key ++ runs_after (common_weight l.level) l.fn.before.run (level_weights l.level (all_own l.v l.elements) ++ ws);
}

abbrev pub decreases-runs : goal.decreases-runs
decreases-runs l = length l.left
