use Rattle.std.proofs.Common.{◌≡◌, ◌+◌, Ok, map, drop, refl, subst, arith}
use Rattle.uca_model.specs.Tailoring.{related}
use Rattle.uca_tailor.specs.Chains.{relation_of}
use Rattle.uca_tailor.specs.Steps.{Refuses, related_as}
use Rattle.uca_tailor.proofs.RelationSteps.{relation_refused, relation_applied, relations_done, next_relation, valid_relation}
use Rattle.uca_tailor.proofs.tailoring.relate_all.Goals as goal

pub relate-requires-clause-valid : goal.relate-requires-clause-valid
relate-requires-clause-valid c = valid_relation c.args.relations.now c.loop-r.r-index c.r-item.result c.loop-r-test.true c.r-item.is c.requires.valid

pub returns-in-Err : goal.returns-in-Err
returns-in-Err c =
    let r = relation_of c.r-item.result in let n = c.loop-r.count in let t = c.loop-r.t in
    let says = subst (λ es. Refuses (related t es r) c.in-Err.cause) c.deref.ensures.value c.in-Err.ensures.related in
    relation_refused n (n + 1) t c.loop-r.anchor.items r (map relation_of (drop (c.loop-r.r-index + 1) c.args.relations.now)) c.in-Err.cause c.fault_of.result _ refl c.fault_of.ensures.cause c.fault_of.ensures.relation says
    (next_relation n t c.loop-r.anchor.items c.args.relations.now c.loop-r.r-index c.r-item.result _ c.loop-r-test.true c.r-item.is c.loop-r.invariant.same)

pub loop-r-preserved : goal.loop-r-preserved
loop-r-preserved c =
    let r = relation_of c.r-item.result in let n = c.loop-r.count in let t = c.loop-r.t in
    let says = subst (λ es. related t es r ≡ Ok (related_as c.relate.new.t c.in-Ok.next.items)) c.deref.ensures.value c.in-Ok.ensures.related in
    record {
      same = relation_applied n t c.relate.new.t c.loop-r.anchor.items c.in-Ok.next.items r (map relation_of (drop (c.loop-r.r-index + 1) c.args.relations.now)) _ says
          (next_relation n t c.loop-r.anchor.items c.args.relations.now c.loop-r.r-index c.r-item.result _ c.loop-r-test.true c.r-item.is c.loop-r.invariant.same);
      count = omega (arith, c.loop-r.invariant.count);
      some = c.in-Ok.ensures.some;
    }

pub returns : goal.returns
returns c = relations_done c.loop-r.count c.loop-r.t c.loop-r.anchor.items c.args.relations.now c.loop-r.r-index _ c.loop-r-test.false c.loop-r.invariant.same
