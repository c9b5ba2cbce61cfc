use Rattle.uca_key.proofs.Common.{rules, arith, sym, subst, ap, ◌∙◌, take_more, level_bytes, PutsAt, all_own}
use Rattle.uca_key.proofs.PlacingLemmas.{PutsAt-more}
use Rattle.uca_key.proofs.WeighingLemmas.{own_bytes-both}
use Rattle.uca_key.proofs.level_bytes.put_each.Goals as goal

pub loop-element-preserved : goal.loop-element-preserved
loop-element-preserved c = record {
  within = search (arith, rules, c.loop-element.invariant.within, c.put_own-next.ensures.within);
  room = search (arith, rules, c.loop-element.invariant.room, c.put_own-next.ensures.within, c.loop-element-test.true);
  puts =
      subst (λ bytes. PutsAt c.args.at bytes c.args.out.now c.put_own-next.new.out c.put_own-next.result)
      (sym (ap (λ xs. level_bytes (all_own c.args.v xs) c.args.level) (take_more c.args.elements.now c.loop-element.element-index _ c.loop-element-test.true) ∙ own_bytes-both c.args.v c.args.level _ _))
      (PutsAt-more _ _ _ _ _ _ _ _ c.requires.size c.loop-element.invariant.puts c.put_own-next.ensures.puts);
}
