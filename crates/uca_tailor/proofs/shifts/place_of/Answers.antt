use Rattle.std.proofs.Common.{ℕ, ◌+◌, ◌-◌, ◌/◌, ◌≤◌, ◌<◌, List, get_or, arith}
use Rattle.uca_tailor.proofs.ShiftLemmas.{rise-at, insert-with}
use Rattle.uca_tailor.proofs.shifts.place_of.Goals as goal

pub loop-low-preserved-then-is_below : goal.loop-low-preserved-then-is_below
loop-low-preserved-then-is_below c =
    let bs : List ℕ = c.args.bounds.now in let m : ℕ = c.loop-low.low + (c.loop-low.high - c.loop-low.low) / 2 in
    let inside : m < c.loop-low.high = omega (arith, c.loop-low-test.true) in
    let here : get_or bs m 0 + m < c.args.w = c.if-is_below.true in
    record {
      order = omega (arith, inside);
      within = c.loop-low.invariant.within;
      below = λ k less. (let g : get_or bs k 0 ≤ get_or bs m 0 = rise-at k m bs c.requires (omega (arith, less)) (omega (arith, inside, c.loop-low.invariant.within)) in omega (arith, g, here, less));
      above = c.loop-low.invariant.above;
    }

pub loop-low-preserved : goal.loop-low-preserved
loop-low-preserved c =
    let bs : List ℕ = c.args.bounds.now in let m : ℕ = c.loop-low.low + (c.loop-low.high - c.loop-low.low) / 2 in
    let inside : m < c.loop-low.high = omega (arith, c.loop-low-test.true) in
    let here : c.args.w ≤ get_or bs m 0 + m = c.if-is_below.false in
    record {
      order = omega arith;
      within = omega (arith, inside, c.loop-low.invariant.within);
      below = c.loop-low.invariant.below;
      above = λ k from within. (let g : get_or bs m 0 ≤ get_or bs k 0 = rise-at m k bs c.requires from within in omega (arith, g, here, from));
    }

pub returns-clause-bounds : goal.returns-clause-bounds
returns-clause-bounds c =
    insert-with c.args.w c.loop-low.low c.args.bounds.now (omega (arith, c.loop-low.invariant.order, c.loop-low.invariant.within)) c.loop-low.invariant.below
    (λ inside. c.loop-low.invariant.above c.loop-low.low (omega (arith, c.loop-low-test.false)) inside)
