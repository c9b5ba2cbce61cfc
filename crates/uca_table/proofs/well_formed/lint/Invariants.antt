use Rattle.uca_table.proofs.Common.{◌≡◌, ◌≤◌, ◌++◌, [], ◌∷◌, length, map, drop, flat_map, cond, is_broken, broken, condition_of}
use Rattle.uca_table.proofs.well_formed.lint.Given as goal

abbrev pub invariant-loop-condition : goal.invariant-loop-condition
invariant-loop-condition l = record {
  same : map condition_of l.broken.items ++ flat_map (λ c. cond (is_broken l.t (condition_of c)) (condition_of c ∷ []) []) (drop l.condition-index l.initial.condition-items) ≡ broken l.t;
  room : length l.broken.items ≤ l.condition-index;
}
