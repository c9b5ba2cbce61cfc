use Rattle.uca_key.proofs.Common.{sym, subst, ap, ◌∙◌, take_more, level_bytes, PutsAt, all_own}
use Rattle.uca_key.proofs.PlacingLemmas.{PutsAt-more}
use Rattle.uca_key.proofs.WeighingLemmas.{own_bytes-both}
use Rattle.uca_key.proofs.level_bytes.put_some_level.Goals as goal

pub loop-element-preserved : goal.loop-element-preserved
loop-element-preserved c =
    subst (λ bytes. PutsAt c.args.at bytes c.args.out.now c.put_some_own-next.new.out c.put_some_own-next.result)
    (sym (ap (λ xs. level_bytes (all_own c.args.v xs) c.args.level) (take_more c.args.elements.now c.loop-element.element-index _ c.loop-element-test.true) ∙ own_bytes-both c.args.v c.args.level _ _))
    (PutsAt-more _ _ _ _ _ _ _ _ c.requires.size c.loop-element.invariant c.put_some_own-next.ensures)
