use Rattle.uca_key.proofs.Common.{◌==◌, ◌&&◌, Bool, ap, not, ◌+◌, ◌*◌, ◌≤◌, ℕ, List, refl, arith, Element, NonIgnorable, is_blank, is_other}
use Rattle.uca_key.proofs.MaskLemmas.{blank-weights, block, mask-fits, mask-lanes, mask-room}
use Rattle.uca_key.proofs.runs.later_masks.Goals as goal

pub each-preserved : goal.each-preserved
each-preserved c =
    let asked : Bool = c.args.asked in let es : List Element = c.args.elements.now in let i = c.each.invariant in
    let some : 16 ≤ c.each.n = block c.each.n c.each-test.true i.whole in
    record {
      within = omega (arith, i.within);
      whole = omega (arith, i.whole, some);
      second = λ v. mask-lanes (is_other v 2) (λ e. e.l2) (λ (w : ℕ). not (w == 32)) (λ e. refl) c.each.n es c.each.second c.second_others.result _ some i.within (i.second v) c.later_weights_at-weights.ensures.second c.second_others.ensures;
      third = λ v. mask-lanes (is_other v 3) (λ e. e.l3) (λ (w : ℕ). not (w == 2)) (λ e. refl) c.each.n es c.each.third c.third_others.result _ some i.within (i.third v) c.later_weights_at-weights.ensures.third c.third_others.ensures;
      none = mask-lanes (is_blank asked) (λ e. e.l2 + 65536 * e.l3) (λ (w : ℕ). asked && (w == 0)) (λ e. ap (λ b. asked && b) (blank-weights e.l2 e.l3)) c.each.n es c.each.none c.blanks.result _ some i.within i.none c.later_weights_at-weights.ensures.both c.blanks.ensures;
    }

pub overflow_mul-second : goal.overflow_mul-second
overflow_mul-second c = record { fits = mask-room (is_other NonIgnorable 2) c.each.n c.args.elements.now _ (block c.each.n c.each-test.true c.each.invariant.whole) c.requires.few (c.each.invariant.second NonIgnorable) }

pub overflow_add-second : goal.overflow_add-second
overflow_add-second c =
    let some : 16 ≤ c.each.n = block c.each.n c.each-test.true c.each.invariant.whole in
    record { fits = mask-fits (is_other NonIgnorable 2) (λ e. e.l2) (λ (w : ℕ). not (w == 32)) (λ e. refl) c.each.n c.args.elements.now c.each.second _ _ some c.each.invariant.within c.requires.few (c.each.invariant.second NonIgnorable) c.later_weights_at-weights.ensures.second c.second_others.ensures }

pub overflow_mul-third : goal.overflow_mul-third
overflow_mul-third c = record { fits = mask-room (is_other NonIgnorable 3) c.each.n c.args.elements.now _ (block c.each.n c.each-test.true c.each.invariant.whole) c.requires.few (c.each.invariant.third NonIgnorable) }

pub overflow_add-third : goal.overflow_add-third
overflow_add-third c =
    let some : 16 ≤ c.each.n = block c.each.n c.each-test.true c.each.invariant.whole in
    record { fits = mask-fits (is_other NonIgnorable 3) (λ e. e.l3) (λ (w : ℕ). not (w == 2)) (λ e. refl) c.each.n c.args.elements.now c.each.third _ _ some c.each.invariant.within c.requires.few (c.each.invariant.third NonIgnorable) c.later_weights_at-weights.ensures.third c.third_others.ensures }

pub overflow_mul-none : goal.overflow_mul-none
overflow_mul-none c = record { fits = mask-room (is_blank c.args.asked) c.each.n c.args.elements.now _ (block c.each.n c.each-test.true c.each.invariant.whole) c.requires.few c.each.invariant.none }

pub overflow_add-none : goal.overflow_add-none
overflow_add-none c =
    let some : 16 ≤ c.each.n = block c.each.n c.each-test.true c.each.invariant.whole in
    record { fits = mask-fits (is_blank c.args.asked) (λ e. e.l2 + 65536 * e.l3) (λ (w : ℕ). c.args.asked && (w == 0)) (λ e. ap (λ b. c.args.asked && b) (blank-weights e.l2 e.l3)) c.each.n c.args.elements.now c.each.none _ _ some c.each.invariant.within c.requires.few c.each.invariant.none c.later_weights_at-weights.ensures.both c.blanks.ensures }
