use Rattle.uca_keys.proofs.Common.{arith, rules, common_steps}
use Rattle.uca_keys.proofs.LinkLemmas.{so_far_last, so_far_more, so_far_all}
use Rattle.uca_keys.proofs.trie.links.Goals as goal

pub loop-number-init : goal.loop-number-init
loop-number-init c = so_far_last _ _ _ _ (search rules) (search rules) (search rules)

pub loop-number-preserved : goal.loop-number-preserved
loop-number-preserved c =
    so_far_more _ c.loop-number.children.items _ c.loop-number.starts.items _ c.loop-number.ends.items _ c.loop-number.end _ c.loop-number.number c.depth_below-depth.result c.in_ok-numbered.field-0
    c.loop-number-test.true c.loop-number.invariant c.depth_below-depth.ensures (search rules) (search rules) (search rules) (search rules) (search rules)

pub returns : goal.returns
returns c = grind (arith, common_steps, so_far_all)
