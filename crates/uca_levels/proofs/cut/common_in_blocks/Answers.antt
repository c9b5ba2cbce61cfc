use Rattle.std.proofs.Common.{eqb, eq-eqb, ne_eqb, refl, sym, arith}
use Rattle.std.proofs.lemmas.Bool.{cond-true, cond-false}
use Rattle.uca_levels.proofs.CommonFront.{in-block, length-blocks}
use Rattle.uca_levels.proofs.cut.common_in_blocks.Goals as goal

pub returns-then-differ-eq0 : goal.returns-then-differ-eq0
returns-then-differ-eq0 c =
    let h = in-block 16 _ _ _ _ _ 16 (omega arith) c.two_blocks.ensures c.two_blocks-2.ensures
    (length-blocks 8 _ _ _ c.requires.first_in_a c.requires.second_in_a) (length-blocks 8 _ _ _ c.requires.first_in_b c.requires.second_in_b) refl (sym (cond-true (eqb _ 0) _ _ (eq-eqb _ 0 c.if-differ-eq0.true))) in
    record { within = h.0; same = h.1 }

pub returns-else-differ-eq0 : goal.returns-else-differ-eq0
returns-else-differ-eq0 c =
    let h = in-block 16 _ _ _ _ _ _ (omega arith) c.two_blocks.ensures c.two_blocks-2.ensures
    (length-blocks 8 _ _ _ c.requires.first_in_a c.requires.second_in_a) (length-blocks 8 _ _ _ c.requires.first_in_b c.requires.second_in_b) refl (sym (cond-false (eqb _ 0) _ _ (ne_eqb _ 0 c.if-differ-eq0.false))) in
    record { within = h.0; same = h.1 }
