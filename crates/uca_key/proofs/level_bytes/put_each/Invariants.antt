use Rattle.uca_key.proofs.Common.{take, ◌+◌, ◌-◌, ◌*◌, ◌≤◌, length, level_bytes, PutsAt, all_own}
use Rattle.uca_key.proofs.level_bytes.put_each.Given as goal

-- the bytes of the elements so far are put, and those of the others fit
abbrev pub invariant-loop-element : goal.invariant-loop-element
invariant-loop-element l = record {
  within : l.next ≤ l.at + 2 * l.element-index;
  room : l.next + 2 * (length l.elements - l.element-index) ≤ length l.out;
  puts : PutsAt l.at (level_bytes (all_own l.v (take l.element-index l.elements)) l.level) l.fn.out l.out l.next;
}
