use Rattle.uca_key.proofs.Common.{arith}
use Rattle.uca_key.proofs.PackedPieces.{packed-whole}
use Rattle.uca_key.proofs.PlacingLemmas.{PutsAt-none}
use Rattle.uca_key.proofs.packed_levels.put_held.Goals as goal

pub returns-then-last-eq1 : goal.returns-then-last-eq1
returns-then-last-eq1 c =
    let first = c.put_whole-first.ensures in
    packed-whole _ _ _ _ _ c.levels-last.result _ _ _ _ _ _ c.requires.size c.requires.elements c.levels-last.ensures first (rw c.if-last-eq1.true (PutsAt-none _ _ (omega (arith, first.counted))))

pub returns-then-first : goal.returns-then-first
returns-then-first c = packed-whole _ _ _ _ _ c.levels-last.result _ _ _ _ _ _ c.requires.size c.requires.elements c.levels-last.ensures c.put_whole-first.ensures c.put_blank_levels.ensures

pub returns : goal.returns
returns c = packed-whole _ _ _ _ _ c.levels-last.result _ _ _ _ _ _ c.requires.size c.requires.elements c.levels-last.ensures c.put_whole-first.ensures c.put_other_levels.ensures
