-- Anchors from their end, and what the absence of a fault says.
use Rattle.std.proofs.Common.{◌≡◌, ℕ, suc, zero, ◌+◌, ◌-◌, ◌≤◌, ◌<◌, true, false, cond, ◌==◌, List, [], ◌∷◌, ◌++◌, length, take, map, get_or, Option, Some, None, Ok, Err, MatchOption, refl, sym, ap, ap₂, subst, ◌∙◌, arith}
use Rattle.std.proofs.lemmas.List.{take_more}
use Rattle.std.specs.List.{list_any}
use Rattle.std.specs.Option.{option_map_or}
use Rattle.uca_weights.specs.declared.element.Element.{Element}
use Rattle.uca_weights.specs.Element.{weight}
use Rattle.uca_model.specs.Gap.{with_gap, table_with_gap, cannot_move}
use Rattle.uca_model.specs.Table.{ElementTable}
use Rattle.uca_model.specs.Tailoring.{TailorCause, small_weight, Anchor, alone, preceded_by, anchor_of, is_high, fault_at, raised, placed_next_to, placed_at, placed_after}
use Rattle.uca_model.proofs.AnchorElements.{is_free, any_anchor, below_top}
use Rattle.uca_tailor.specs.declared.faults.TailorCause.{TailorCause as Cause}
use Rattle.uca_tailor.specs.Faults.{reported_cause}
use Rattle.uca_tailor.specs.Steps.{anchor_as, placed_as, Refuses, Reports}

anchor_of-append_zero : (level : ℕ) (xs : List Element) (e : Element) → (weight level e == 0) ≡ true → anchor_of level (xs ++ e ∷ []) ≡ anchor_of level xs
anchor_of-append_zero level [] e h = rw h refl
anchor_of-append_zero level (x ∷ xs) e h = ap (λ o. option_map_or (λ a. Some (preceded_by x a)) o (cond (weight level x == 0) None (Some (alone x)))) (anchor_of-append_zero level xs e h)

anchor_of-append : (level : ℕ) (xs : List Element) (e : Element) → (weight level e == 0) ≡ false → anchor_of level (xs ++ e ∷ []) ≡ Some (anchor_as xs e)
anchor_of-append level [] e h = rw h refl
anchor_of-append level (x ∷ xs) e h = ap (λ o. option_map_or (λ a. Some (preceded_by x a)) o (cond (weight level x == 0) None (Some (alone x)))) (anchor_of-append level xs e h)

take_suc : (es : List Element) (n : ℕ) (d : Element) → n < length es → take (suc n) es ≡ take n es ++ get_or es n d ∷ []
take_suc es n d h = let f : n + 1 ≡ suc n = omega arith in ap (λ k. take k es) (sym f) ∙ take_more es n d h

-- a last element without a weight is left out
pub anchor_of_less : (level : ℕ) (es : List Element) (n : ℕ) (d : Element) → 0 < n → n ≤ length es → (weight level (get_or es (n - 1) d) == 0) ≡ true → anchor_of level (take n es) ≡ anchor_of level (take (n - 1) es)
anchor_of_less level es zero d p h z = absurd (omega arith)
anchor_of_less level es (suc n) d p h z =
    let e : suc n - 1 ≡ n = omega arith in
    ap (anchor_of level) (take_suc es n d (omega arith)) ∙ anchor_of-append_zero level (take n es) (get_or es n d) (subst (λ k. (weight level (get_or es k d) == 0) ≡ true) e z) ∙ ap (λ k. anchor_of level (take k es)) (sym e)

-- one with a weight is the anchor's
pub anchor_of_found : (level : ℕ) (es : List Element) (n : ℕ) (d : Element) → 0 < n → n ≤ length es → (weight level (get_or es (n - 1) d) == 0) ≡ false → anchor_of level (take n es) ≡ Some (anchor_as (take (n - 1) es) (get_or es (n - 1) d))
anchor_of_found level es zero d p h z = absurd (omega arith)
anchor_of_found level es (suc n) d p h z =
    let e : suc n - 1 ≡ n = omega arith in
    ap (anchor_of level) (take_suc es n d (omega arith)) ∙ anchor_of-append level (take n es) (get_or es n d) (subst (λ k. (weight level (get_or es k d) == 0) ≡ false) e z) ∙ ap (λ k. Some (anchor_as (take k es) (get_or es k d))) (sym e)

-- What no fault says

-- the raised weight has sixteen bits
pub next_fits : (level w : ℕ) (t : ElementTable) (es before : List Element) (last : Element) → 1 ≤ level → level ≤ 3 → w < 65536 → anchor_of level es ≡ Some (anchor_as before last) → w ≡ weight level last → fault_at level w t es ≡ None → weight level last < 65535
next_fits level w t es before last p q f a is e =
    let free = is_free level w t es e in
    let high = any_anchor is_high level es _ a free.low in
    subst (λ x. x < 65535) is (below_top level w last p q is f high.1 free.below_top)

-- each element before the last can move up
pub before_moves : (level w : ℕ) (t : ElementTable) (es before : List Element) (last : Element) → anchor_of level es ≡ Some (anchor_as before last) → w ≡ weight level last → fault_at level w t es ≡ None → list_any (cannot_move level (weight level last)) before ≡ false
before_moves level w t es before last a is e = subst (λ x. list_any (cannot_move level x) before ≡ false) is (any_anchor (cannot_move level w) level es _ a (is_free level w t es e).anchor_can_move).0

-- Where an item is placed

pub placed_there : (level w : ℕ) (t u : ElementTable) (es before base : List Element) (last : Element) → anchor_of level es ≡ Some (anchor_as before last) → w ≡ weight level last → fault_at level w t es ≡ None
    → base ≡ map (with_gap level (weight level last)) before ++ raised level last ∷ [] → u ≡ table_with_gap level w t → placed_after level t es ≡ Ok (placed_as base u)
placed_there level w t u es before base last a is e b moved =
    let none : fault_at level (weight level last) t es ≡ None = subst (λ x. fault_at level x t es ≡ None) is e in
    ap (λ o. option_map_or (placed_at level t es) o (Err small_weight)) a ∙ ap (λ o. option_map_or (λ cause. Err cause) o (Ok (placed_next_to level t (anchor_as before last)))) none
    ∙ ap₂ (λ x y. Ok (placed_as x y)) (sym b) (sym (moved ∙ ap (λ x. table_with_gap level x t) is))

refused : (level : ℕ) (t : ElementTable) (es : List Element) (a : Anchor) (cause : Option TailorCause) → anchor_of level es ≡ Some a → MatchOption cause (Unit {0}) (λ c. fault_at level (weight level a.last) t es ≡ Some c) → MatchOption cause (Unit {0}) (λ c. placed_after level t es ≡ Err c)
refused level t es a None is fault = tt
refused level t es a (Some c) is fault = ap (λ o. option_map_or (placed_at level t es) o (Err small_weight)) is ∙ ap (λ o. option_map_or (λ d. Err d) o (Ok (placed_next_to level t a))) fault

pub placed_refused : (level w : ℕ) (t : ElementTable) (es before : List Element) (last : Element) (cause : Cause) → anchor_of level es ≡ Some (anchor_as before last) → w ≡ weight level last → Reports (fault_at level w t es) cause → Refuses (placed_after level t es) cause
placed_refused level w t es before last cause a is reported = refused level t es (anchor_as before last) (reported_cause cause) a (subst (λ x. Reports (fault_at level x t es) cause) is reported)
