use Rattle.uca_key.proofs.Common.{take, level_bytes, PutsAt, all_own}
use Rattle.uca_key.proofs.level_bytes.put_some_level.Given as goal

-- the bytes of the elements so far are put
abbrev pub invariant-loop-element : goal.invariant-loop-element
invariant-loop-element l = PutsAt l.at (level_bytes (all_own l.v (take l.element-index l.elements)) l.level) l.fn.out l.out l.next
