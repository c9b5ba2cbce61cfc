use Rattle.uca_key.proofs.Common.{◌+◌, ◌*◌, ◌≤◌, length, level_bytes, IsPutting, all_own}
use Rattle.uca_key.proofs.level_bytes.put_whole.Given as goal

-- the bytes of some elements are put, and those of the others fit
abbrev pub invariant-fours : goal.invariant-fours
invariant-fours l = record {
  room : l.next + 2 * length l.left ≤ length l.out;
  puts : IsPutting l.at l.fn.out l.next l.out (level_bytes (all_own l.v l.elements) l.level) (level_bytes (all_own l.v l.left) l.level);
}

abbrev pub decreases-fours : goal.decreases-fours
decreases-fours l = length l.left
