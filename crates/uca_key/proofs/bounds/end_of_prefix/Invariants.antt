use Rattle.uca_key.proofs.Common.{◌≡◌, ◌≤◌, length, take, end_of_prefix}
use Rattle.uca_key.proofs.bounds.end_of_prefix.Given as goal

abbrev pub invariant-loop-n : goal.invariant-loop-n
invariant-loop-n l = record {
  within : l.n ≤ length l.bytes;
  same : end_of_prefix (take l.n l.bytes) ≡ end_of_prefix l.bytes;
}

abbrev pub decreases-loop-n : goal.decreases-loop-n
decreases-loop-n l = l.n
