use Rattle.std.proofs.Common.{◌≤◌, chars, sym, ◌∙◌, arith}
use Rattle.uca_weights.specs.Settings.{levels}
use Rattle.uca_model.proofs.LevelLemmas.{levels-within}
use Rattle.uca_levels.proofs.ReadsLemmas.{from_ne, from_not_ne}
use Rattle.uca_levels.proofs.LevelsFromCut.{undecided-first, undecided-next, decided-here}
use Rattle.uca_levels.proofs.WithoutFront.{orders-left, left-safe}
use Rattle.uca_levels.proofs.text_order.order_by_weights.Goals as goal

pub returns-then-is_ne : goal.returns-then-is_ne
returns-then-is_ne c =
    sym (decided-here c.args.t.now c.args.s (chars c.args.a.now) (chars c.args.b.now) 1 _ (undecided-first _ c.args.s _ _) (levels-within c.args.s.strength).0 c.in_ok-order.ensures (from_ne _ (sym c.is_ne.ensures ∙ c.if-is_ne.true))).0

pub each-init : goal.each-init
each-init c =
    let some = (levels-within c.args.s.strength).0 in
    record {
      first = omega arith;
      last = omega (arith, some);
      undecided = undecided-next c.args.t.now c.args.s (chars c.args.a.now) (chars c.args.b.now) 1 _ (undecided-first _ c.args.s _ _) some c.in_ok-order.ensures (from_not_ne _ (sym c.is_ne.ensures ∙ c.if-is_ne.false));
    }

pub returns-then-is_ne-2 : goal.returns-then-is_ne-2
returns-then-is_ne-2 c =
    let orders = orders-left _ c.args.s.weighting _ _ _ _ c.each.level _ c.longest-longest.ensures.valid c.without_front.ensures c.in_ok-order-2.ensures in
    sym (decided-here _ c.args.s _ _ c.each.level _ c.each.invariant.undecided (omega (arith, c.each-test.true, c.levels-last.ensures)) orders (from_ne _ (sym c.is_ne-in-each.ensures ∙ c.if-is_ne-2.true))).0

pub each-preserved : goal.each-preserved
each-preserved c =
    let inside : c.each.level ≤ levels c.args.s.strength = omega (arith, c.each-test.true, c.levels-last.ensures) in
    let orders = orders-left _ c.args.s.weighting _ _ _ _ c.each.level _ c.longest-longest.ensures.valid c.without_front.ensures c.in_ok-order-2.ensures in
    record {
      first = omega (arith, c.each.invariant.first);
      last = omega (arith, inside);
      undecided = undecided-next _ c.args.s _ _ c.each.level _ c.each.invariant.undecided inside orders (from_not_ne _ (sym c.is_ne-in-each.ensures ∙ c.if-is_ne-2.false));
    }

pub order_of_weights-requires-clause-safe_a : goal.order_of_weights-requires-clause-safe_a
order_of_weights-requires-clause-safe_a c = (left-safe _ _ _ _ _ c.without_front.ensures c.requires.safe_a c.requires.safe_b).0

pub order_of_weights-requires-clause-safe_b : goal.order_of_weights-requires-clause-safe_b
order_of_weights-requires-clause-safe_b c = (left-safe _ _ _ _ _ c.without_front.ensures c.requires.safe_a c.requires.safe_b).1
