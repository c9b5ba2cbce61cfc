use Rattle.uca_table.proofs.Common.{◌≡◌, ℕ, ◌+◌, ◌-◌, ◌*◌, ◌/◌, ◌≤◌, get_or, refl, ap, subst, ◌∙◌, arith, AreAhead, is_used, place_at, point_at, points_from, ◌++◌, List, map, entry_in, Element}
use Rattle.uca_table.proofs.EntryMapLemmas.{ahead-first, ahead-others, ahead-point, no_block, points-skip}
use Rattle.uca_table.proofs.entry_map.push_singles.Goals as goal

pub push_single-requires : goal.push_single-requires
push_single-requires c = let at = place_at c.args.singles.now in ahead-first (point_at at c.loop-point.point) _ (ahead-point at c.loop-point.point c.args.end c.loop-point-test.true c.loop-point.invariant)

pub loop-point-preserved-then-has_own : goal.loop-point-preserved-then-has_own
loop-point-preserved-then-has_own c =
    let at = place_at c.args.singles.now in ahead-others (point_at at c.loop-point.point) _ (ahead-point at c.loop-point.point c.args.end c.loop-point-test.true c.loop-point.invariant) c.in_ok-push_single.ensures

pub loop-point-preserved : goal.loop-point-preserved
loop-point-preserved c =
    let m = c.args.singles.now in let old = c.loop-point.point in let new = c.min-point.result in
    let on : old ≤ new = omega (arith, c.loop-point-test.true, c.loop-point.auto.point-fits, c.min-point.ensures, c.saturating_mul.ensures) in
    let near : new ≤ (old / 128 + 1) * 128 = omega (arith, c.min-point.ensures, c.saturating_mul.ensures) in
    let within : new ≤ c.args.end = omega (arith, c.min-point.ensures) in
    let none_here : get_or m.blocks.numbers.items (old / 128) 0 ≡ 0 = c.if-has_own.ensures.none refl in
    let same : points_from (place_at m) old (c.args.end - old) ≡ points_from (place_at m) new (c.args.end - new) = points-skip (place_at m) old (new - old) new (c.args.end - old) (c.args.end - new) (omega arith) (omega arith) (λ j above below.
    let here : j / 128 ≡ old / 128 = omega (arith, above, below, near) in
    ap is_used (no_block m j c.requires.map (ap (λ b. get_or m.blocks.numbers.items b 0) here ∙ none_here))) in
    let whole : List (List ℕ × List Element) = c.args.entries.now ++ map (entry_in c.args.elements.now) (points_from (place_at m) c.args.from (c.args.end - c.args.from)) in
    subst (λ l. AreAhead c.args.elements.now c.loop-point.entries l whole) same c.loop-point.invariant
