use Rattle.std.proofs.Common.{◌≡◌, chars, length, take}
use Rattle.std.specs.Str.{IsCharBoundary}
use Rattle.uca_model.specs.LevelWeights.{level_list}
use Rattle.uca_model.specs.SafeText.{IsSafe}
use Rattle.uca_levels.specs.Reads.{InStep}
use Rattle.uca_levels.proofs.primaries.order_by_turns.Given as goal

-- what came before has the same primary weights, and so many bytes of what is left are the same
abbrev pub invariant-turns : goal.invariant-turns
invariant-turns l = record {
  safe_a : IsSafe (chars l.left.a.now);
  safe_b : IsSafe (chars l.left.b.now);
  in_a : IsCharBoundary l.left.a.now l.same;
  in_b : IsCharBoundary l.left.b.now l.same;
  same : take l.same l.left.a.now ≡ take l.same l.left.b.now;
  lists : InStep (level_list l.t l.v (chars l.fn.a) 1) (level_list l.t l.v (chars l.fn.b) 1) (level_list l.t l.v (chars l.left.a.now) 1) (level_list l.t l.v (chars l.left.b.now) 1);
}

abbrev pub decreases-turns : goal.decreases-turns
decreases-turns l = length l.left.a.now
