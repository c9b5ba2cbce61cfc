use Rattle.uca_table.proofs.Common.{arith, get, nat_cmp, common_steps}
use Rattle.uca_table.proofs.RangeLemmas.{both_put, inserted}
use Rattle.uca_table.proofs.range_map.RangeMap.put.Goals as goal

pub invariant_of-self-in-Ok : goal.invariant_of-self-in-Ok
invariant_of-self-in-Ok c =
    let es = c.self.inside.by_last.entries in
    both_put es c.insert.new.self.entries (get nat_cmp c.self.inside.extents) (get nat_cmp c.insert-2.new.self) c.args.range c.widened-extent.result
    (inserted es c.args.range c.args.self.now c.self.view_is c.self.invariant.0 c.requires.ranges c.requires.fine) c.self.invariant.1 c.in_default.ensures.entries c.widened-extent.ensures c.in-Ok.ensures.updates.0

pub returns-in-Ok-clause-ok : goal.returns-in-Ok-clause-ok
returns-in-Ok-clause-ok c = grind (arith, common_steps, inserted)

pub invariant_of-self-in-Err-insert : goal.invariant_of-self-in-Err-insert
invariant_of-self-in-Err-insert c =
    let taken = inserted c.self.inside.by_last.entries c.args.range c.args.self.now c.self.view_is c.self.invariant.0 c.requires.ranges c.requires.fine in
    grind (arith, common_steps, taken)

pub returns-in-Err-insert-clause-err : goal.returns-in-Err-insert-clause-err
returns-in-Err-insert-clause-err c =
    let taken = inserted c.self.inside.by_last.entries c.args.range c.args.self.now c.self.view_is c.self.invariant.0 c.requires.ranges c.requires.fine in
    grind (arith, common_steps, taken)
