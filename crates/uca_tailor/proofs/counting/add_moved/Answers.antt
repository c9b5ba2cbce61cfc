use Rattle.std.proofs.Common.{◌∙◌}
use Rattle.uca_tailor.proofs.CountedEntries.{moved-more, moved-whole}
use Rattle.uca_tailor.proofs.counting.add_moved.Goals as goal

pub loop-element-preserved : goal.loop-element-preserved
loop-element-preserved c = record {
  size = c.add_one.ensures.size ∙ c.loop-element.invariant.size;
  capped = λ n h. moved-more c.args.level c.loop-element.element-index c.args.moves.now c.args.after c.args.elements.now _ c.moved.result c.weight.result c.loop-element.counts c.add_one.new.counts n c.loop-element-test.true c.moved.ensures c.weight.ensures c.add_one.ensures.capped (c.loop-element.invariant.capped n h);
}

pub returns-clause-capped : goal.returns-clause-capped
returns-clause-capped c = λ n h. moved-whole c.args.level c.loop-element.element-index c.args.moves.now c.args.after c.args.elements.now c.loop-element.counts n c.loop-element-test.false (c.loop-element.invariant.capped n h)
