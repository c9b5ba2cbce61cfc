use Rattle.uca_key.proofs.Common.{◌≡◌, ◌==◌, take, list_any}
use Rattle.uca_key.proofs.weight_codes.has_weight.Given as goal

abbrev pub invariant-loop-weight : goal.invariant-loop-weight
invariant-loop-weight l = l.found ≡ list_any (λ c. c == l.w) (take l.weight-index l.weights)
