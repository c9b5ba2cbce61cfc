-- The anchor of a relation among the elements that it is of, and the weights of the item next to it.
use Rattle.std.proofs.Common.{◌≡◌, ℕ, zero, suc, ◌+◌, Bool, true, false, cond, ◌==◌, eqb, eqb-true, List, [], ◌∷◌, ◌++◌, map, Option, Some, None, refl, sym, ap, subst, ◌∙◌, arith}
use Rattle.std.proofs.lemmas.Bool.{eqb-false}
use Rattle.std.specs.List.{AllByRecursion}
use Rattle.std.specs.Option.{option_map_or}
use Rattle.uca_weights.specs.declared.element.Element.{Element}
use Rattle.uca_weights.specs.Element.{weight}
use Rattle.uca_model.specs.Gap.{weight_with_gap, with_gap}
use Rattle.uca_model.specs.Tailoring.{Anchor, alone, preceded_by, anchor_of, raised}
use Rattle.uca_model.specs.AnchorLaws.{EndsInAWeight, AnchorsEndInAWeight, ItemsLieInTheGap}
use Rattle.uca_model.proofs.GapAtWeights.{weight_with_gap-apart, raised-first, raised-second, raised-third}

-- ## Anchors

zero_of : (b : Bool) (x : ℕ) (y : Anchor) → eqb x 0 ≡ b → cond b None (Some y) ≡ None → x ≡ 0
zero_of true x y is e = eqb-true x 0 is
zero_of false x y is e = absurd (cc)

none_step : (level : ℕ) (e : Element) (o : Option Anchor) → option_map_or (λ z. Some (preceded_by e z)) o (cond (weight level e == 0) None (Some (alone e))) ≡ None → (o ≡ None) × (weight level e ≡ 0)
none_step level e None h = (refl, zero_of (weight level e == 0) (weight level e) (alone e) refl h)
none_step level e (Some b) h = absurd (cc)

all_none : (level : ℕ) (es : List Element) → anchor_of level es ≡ None → AllByRecursion (λ e. weight level e ≡ 0) es
all_none level [] h = tt
all_none level (e ∷ es) h = let s = none_step level e (anchor_of level es) h in (s.1, all_none level es s.0)

ends_here : (level : ℕ) (e : Element) (es : List Element) (b : Bool) (a : Anchor) → eqb (weight level e) 0 ≡ b → AllByRecursion (λ x. weight level x ≡ 0) es → cond b None (Some (alone e)) ≡ Some a → EndsInAWeight level (e ∷ es) a
ends_here level e es true a is n h = absurd (cc)
ends_here level e es false a is n h = let same : alone e ≡ a = cc in subst (λ z. EndsInAWeight level (e ∷ es) z) same (record { dropped = es; parts = refl; some = eqb-false (weight level e) 0 is; none = n })

ends_step : (level : ℕ) (e : Element) (es : List Element) (o : Option Anchor) (a : Anchor) → anchor_of level es ≡ o → option_map_or (λ z. Some (preceded_by e z)) o (cond (weight level e == 0) None (Some (alone e))) ≡ Some a
    → ((b : Anchor) → o ≡ Some b → EndsInAWeight level es b) → EndsInAWeight level (e ∷ es) a
ends_step level e es None a is h more = ends_here level e es (weight level e == 0) a refl (all_none level es is) h
ends_step level e es (Some b) a is h more =
    let same : preceded_by e b ≡ a = cc in
    let s = more b refl in
    subst (λ z. EndsInAWeight level (e ∷ es) z) same (record { dropped = s.dropped; parts = ap (λ x. e ∷ x) s.parts; some = s.some; none = s.none })

pub ends_in_a_weight : AnchorsEndInAWeight
ends_in_a_weight level [] a h = absurd (cc)
ends_in_a_weight level (e ∷ es) a h = ends_step level e es (anchor_of level es) a refl h (λ b is. ends_in_a_weight level es b is)

-- ## Items

-- the weights of elements moved for the gap, and then one raised by one
first_weights : (w : ℕ) (es : List Element) (e : Element) → w ≡ weight 1 e → map (weight 1) (map (with_gap 1 w) es ++ raised 1 e ∷ []) ≡ map (λ x. weight_with_gap 1 w (weight 1 x)) es ++ (w + 1) ∷ []
first_weights w [] e is = ap (λ v. v ∷ []) (raised-first e ∙ ap (λ v. v + 1) (sym is))
first_weights w (x ∷ es) e is = ap (λ vs. weight_with_gap 1 w (weight 1 x) ∷ vs) (first_weights w es e is)

second_weights : (w : ℕ) (es : List Element) (e : Element) → w ≡ weight 2 e → map (weight 2) (map (with_gap 2 w) es ++ raised 2 e ∷ []) ≡ map (λ x. weight_with_gap 2 w (weight 2 x)) es ++ (w + 1) ∷ []
second_weights w [] e is = ap (λ v. v ∷ []) (raised-second e ∙ ap (λ v. v + 1) (sym is))
second_weights w (x ∷ es) e is = ap (λ vs. weight_with_gap 2 w (weight 2 x) ∷ vs) (second_weights w es e is)

third_weights : (w : ℕ) (es : List Element) (e : Element) → w ≡ weight 3 e → map (weight 3) (map (with_gap 3 w) es ++ raised 3 e ∷ []) ≡ map (λ x. weight_with_gap 3 w (weight 3 x)) es ++ (w + 1) ∷ []
third_weights w [] e is = ap (λ v. v ∷ []) (raised-third e ∙ ap (λ v. v + 1) (sym is))
third_weights w (x ∷ es) e is = ap (λ vs. weight_with_gap 3 w (weight 3 x) ∷ vs) (third_weights w es e is)

pub lie_in_the_gap : ItemsLieInTheGap
lie_in_the_gap zero t a low high = absurd (omega arith)
lie_in_the_gap (suc zero) t a low high = record { weights = first_weights (weight 1 a.last) a.before a.last refl; alone = λ below e is. weight_with_gap-apart 1 (weight 1 a.last) (weight 1 e) below is }
lie_in_the_gap (suc (suc zero)) t a low high = record { weights = second_weights (weight 2 a.last) a.before a.last refl; alone = λ below e is. weight_with_gap-apart 2 (weight 2 a.last) (weight 2 e) below is }
lie_in_the_gap (suc (suc (suc zero))) t a low high = record { weights = third_weights (weight 3 a.last) a.before a.last refl; alone = λ below e is. weight_with_gap-apart 3 (weight 3 a.last) (weight 3 e) below is }
lie_in_the_gap (suc (suc (suc (suc n)))) t a low high = absurd (omega arith)
