use Rattle.uca_key.proofs.Common.{◌-◌, ◌^◌, ◌<◌, List, take, drop, arith, length-drop, length-take, Element, is_other}
use Rattle.uca_key.proofs.MaskLemmas.{mask-before, mask-small, mask-none}
use Rattle.uca_key.proofs.runs.others_of.Goals as goal

pub each-init : goal.each-init
each-init c = record {
  within = omega (arith, c.min-n.ensures);
  mask = mask-none (is_other c.args.v c.args.level) c.min-n.result (take 64 c.args.elements.now) (omega (arith, length-take 64 c.args.elements.now, c.min-n.ensures));
}

pub each-preserved : goal.each-preserved
each-preserved c = record {
  within = omega (arith, c.each.invariant.within);
  mask = mask-before c.args.v c.args.level c.each.n c.args.elements.now _ c.each.others c.is_other.result c.each-test.true c.each.invariant.within c.each.invariant.mask c.is_other.ensures;
}

pub overflow_mul-others : goal.overflow_mul-others
overflow_mul-others c =
    let first : List Element = take 64 c.args.elements.now in
    let small : c.each.others < 2 ^ 63 = mask-small (is_other c.args.v c.args.level) (drop c.each.n first) c.each.others 63 (omega (arith, length-drop c.each.n first, length-take 64 c.args.elements.now, c.each-test.true)) c.each.invariant.mask in
    record { fits = omega (arith, small) }

pub overflow_add-others : goal.overflow_add-others
overflow_add-others c =
    let first : List Element = take 64 c.args.elements.now in
    record { fits = mask-small (is_other c.args.v c.args.level) (drop (c.each.n - 1) first) _ 64 (omega (arith, length-drop (c.each.n - 1) first, length-take 64 c.args.elements.now)) (mask-before c.args.v c.args.level c.each.n c.args.elements.now _ c.each.others c.is_other.result c.each-test.true c.each.invariant.within c.each.invariant.mask c.is_other.ensures) }
