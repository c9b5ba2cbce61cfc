use Rattle.std.proofs.Common.{◌∙◌}
use Rattle.uca_tailor.proofs.CountLemmas.{Reach-more, Reach-whole}
use Rattle.uca_tailor.proofs.counts.add.Goals as goal

pub loop-element-preserved : goal.loop-element-preserved
loop-element-preserved c = record {
  size = c.add_one.ensures.size ∙ c.loop-element.invariant.size;
  reach = λ n h. Reach-more c.args.level c.loop-element.element-index c.args.elements.now _ c.weight.result c.loop-element.counts c.add_one.new.counts n c.loop-element-test.true c.weight.ensures c.add_one.ensures.reach (c.loop-element.invariant.reach n h);
}

pub returns-clause-reach : goal.returns-clause-reach
returns-clause-reach c = λ n h. Reach-whole c.args.level c.loop-element.element-index c.args.elements.now c.loop-element.counts n c.loop-element-test.false (c.loop-element.invariant.reach n h)
