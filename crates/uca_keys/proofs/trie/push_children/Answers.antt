use Rattle.uca_keys.proofs.Common.{sym, ◌∙◌, arith, append_assoc, common_steps}
use Rattle.uca_keys.proofs.LinkLemmas.{step_over}
use Rattle.uca_keys.proofs.trie.push_children.Goals as goal

pub loop-at-preserved : goal.loop-at-preserved
loop-at-preserved c =
    let step = step_over c.args.nodes.now c.args.ends.now c.args.depth c.loop-at.at _ c.loop-at-test.true c.if-node-depth.false c.loop-at.invariant.top c.requires.ends (omega arith) in
    record {
      from = omega (arith, step.more);
      within = step.within;
      top = step.top;
      done = grind (arith, common_steps, step.kids, append_assoc);
      span = sym step.span ∙ c.loop-at.invariant.span;
    }
