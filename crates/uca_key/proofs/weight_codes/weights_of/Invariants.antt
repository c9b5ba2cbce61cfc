use Rattle.uca_key.proofs.Common.{◌≡◌, map, take, primary_of}
use Rattle.uca_key.proofs.weight_codes.weights_of.Given as goal

abbrev pub invariant-loop-c : goal.invariant-loop-c
invariant-loop-c l = l.weights.items ≡ map (primary_of l.t) (take l.c-index l.characters)
