use Rattle.std.proofs.Common.{◌≡◌, ◌+◌, ◌-◌, ◌≤◌, sym, ◌∙◌, arith}
use Rattle.uca_weights.specs.Settings.{levels}
use Rattle.uca_model.proofs.LevelLemmas.{levels-within}
use Rattle.uca_levels.proofs.ReadsLemmas.{from_ne, from_not_ne}
use Rattle.uca_levels.proofs.LevelsFromCut.{undecided-first, undecided-next, decided-here, back-safe, back-stays, orders-back, FromCut-more, FromCut-times}
use Rattle.uca_levels.proofs.comparison.compare_sources.Goals as goal

-- ---- the first level

pub returns-then-is_ne-clause-order : goal.returns-then-is_ne-clause-order
returns-then-is_ne-clause-order g c =
    sym (decided-here c.args.t.now c.args.s _ _ 1 _ (undecided-first c.args.t.now c.args.s _ _) (levels-within c.args.s.strength).0 c.first_order-first.ensures.order (from_ne _ (sym c.is_ne.ensures ∙ c.if-is_ne.true))).0

pub each-init : goal.each-init
each-init g c =
    let some : 1 ≤ levels c.args.s.strength = (levels-within c.args.s.strength).0 in
    record {
      first = omega arith;
      last = omega (arith, some);
      undecided = undecided-next c.args.t.now c.args.s _ _ 1 _ (undecided-first c.args.t.now c.args.s _ _) some c.first_order-first.ensures.order (from_not_ne _ (sym c.is_ne.ensures ∙ c.if-is_ne.false));
      back_a = c.first_order-first.ensures.back_a;
      back_b = c.first_order-first.ensures.back_b;
      reads_a = c.first_order-first.ensures.reads_a;
      reads_b = c.first_order-first.ensures.reads_b;
    }

-- ---- a later level

pub order_of_level-order-requires-clause-safe_a : goal.order_of_level-order-requires-clause-safe_a
order_of_level-order-requires-clause-safe_a g c = back-safe _ _ (g.S.Source.state c.args.a.now) (g.S.Source.state c.each.a) _ c.go_back.ensures c.each.invariant.back_a c.each.invariant.reads_a.text c.requires.safe_a

pub order_of_level-order-requires-clause-safe_b : goal.order_of_level-order-requires-clause-safe_b
order_of_level-order-requires-clause-safe_b g c = back-safe _ _ (g.T.Source.state c.args.b.now) (g.T.Source.state c.each.b) _ c.go_back-in-each.ensures c.each.invariant.back_b c.each.invariant.reads_b.text c.requires.safe_b

-- the level decides
pub returns-then-is_ne-2 : goal.returns-then-is_ne-2
returns-then-is_ne-2 g c =
    let orders = orders-back c.args.t.now c.args.s.weighting _ (g.S.Source.state c.args.a.now) (g.T.Source.state c.args.b.now) (g.S.Source.state c.each.a) (g.T.Source.state c.each.b) _ _ c.each.level _ c.first_order-first.ensures.valid c.each.invariant.back_a c.each.invariant.back_b
    c.each.invariant.reads_a.text c.each.invariant.reads_b.text c.go_back.ensures c.go_back-in-each.ensures c.order_of_level-order.ensures.order in
    let read_a = FromCut-more _ _ c.each.level _ _ _ _ c.each.invariant.reads_a c.each.invariant.back_a c.each.invariant.first c.go_back.ensures c.order_of_level-order.ensures.reads_a in
    let read_b = FromCut-more _ _ c.each.level _ _ _ _ c.each.invariant.reads_b c.each.invariant.back_b c.each.invariant.first c.go_back-in-each.ensures c.order_of_level-order.ensures.reads_b in
    let decided = decided-here c.args.t.now c.args.s _ _ c.each.level _ c.each.invariant.undecided (omega (arith, c.each-test.true, c.levels-last.ensures)) orders (from_ne _ (sym c.is_ne-in-each.ensures ∙ c.if-is_ne-2.true)) in
    record {
      order = sym decided.0;
      reads_a = rw decided.1 (FromCut-times _ _ _ _ (omega (arith, c.each.invariant.first)) read_a);
      reads_b = rw decided.1 (FromCut-times _ _ _ _ (omega (arith, c.each.invariant.first)) read_b);
      cut_a = rw decided.1 read_a;
      cut_b = rw decided.1 read_b;
    }

pub each-preserved : goal.each-preserved
each-preserved g c =
    let inside : c.each.level ≤ levels c.args.s.strength = omega (arith, c.each-test.true, c.levels-last.ensures) in
    let past : c.each.level + 1 - 1 ≡ c.each.level = omega arith in
    let orders = orders-back c.args.t.now c.args.s.weighting _ (g.S.Source.state c.args.a.now) (g.T.Source.state c.args.b.now) (g.S.Source.state c.each.a) (g.T.Source.state c.each.b) _ _ c.each.level _ c.first_order-first.ensures.valid c.each.invariant.back_a c.each.invariant.back_b
    c.each.invariant.reads_a.text c.each.invariant.reads_b.text c.go_back.ensures c.go_back-in-each.ensures c.order_of_level-order.ensures.order in
    record {
      first = omega (arith, c.each.invariant.first);
      last = omega (arith, inside);
      undecided = undecided-next _ c.args.s _ _ c.each.level _ c.each.invariant.undecided inside orders (from_not_ne _ (sym c.is_ne-in-each.ensures ∙ c.if-is_ne-2.false));
      back_a = back-stays _ _ (g.S.Source.state c.each.a) _ _ c.each.invariant.back_a c.go_back.ensures c.order_of_level-order.ensures.reads_a;
      back_b = back-stays _ _ (g.T.Source.state c.each.b) _ _ c.each.invariant.back_b c.go_back-in-each.ensures c.order_of_level-order.ensures.reads_b;
      reads_a = rw past (FromCut-more _ _ c.each.level _ _ _ _ c.each.invariant.reads_a c.each.invariant.back_a c.each.invariant.first c.go_back.ensures c.order_of_level-order.ensures.reads_a);
      reads_b = rw past (FromCut-more _ _ c.each.level _ _ _ _ c.each.invariant.reads_b c.each.invariant.back_b c.each.invariant.first c.go_back-in-each.ensures c.order_of_level-order.ensures.reads_b);
    }
