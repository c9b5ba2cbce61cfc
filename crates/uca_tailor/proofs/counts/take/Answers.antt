use Rattle.std.proofs.Common.{◌∙◌}
use Rattle.uca_tailor.proofs.CountLemmas.{Reach-less, Reach-end}
use Rattle.uca_tailor.proofs.counts.take.Goals as goal

pub loop-element-preserved : goal.loop-element-preserved
loop-element-preserved c = record {
  size = c.take_one.ensures.size ∙ c.loop-element.invariant.size;
  reach = λ n h. Reach-less c.args.level c.loop-element.element-index c.args.elements.now _ c.weight.result c.loop-element.counts c.take_one.new.counts n c.loop-element-test.true c.weight.ensures c.take_one.ensures.reach (c.loop-element.invariant.reach n h);
}

pub returns-clause-reach : goal.returns-clause-reach
returns-clause-reach c = λ n h. Reach-end c.args.level c.loop-element.element-index c.args.elements.now c.loop-element.counts n c.loop-element-test.false (c.loop-element.invariant.reach n h)
