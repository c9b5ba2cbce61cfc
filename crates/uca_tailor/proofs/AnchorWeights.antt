-- The weights of an anchor at a level and below it, and those of the base of the item that is placed after it.
use Rattle.std.proofs.Common.{◌≡◌, ℕ, ◌+◌, Bool, true, false, cond, not, ◌&&◌, ◌||◌, ◌==◌, eqb, nat_lt, nat_le, List, [], ◌∷◌, ◌++◌, map, Some, refl, sym, ap, ap₂, subst, ◌∙◌, arith, eq-eqb, ne_eqb}
use Rattle.std.proofs.lemmas.Bool.Decides.{nat_tests}
use Rattle.std.specs.List.{AllByRecursion, list_any}
use Rattle.uca_weights.specs.declared.element.Element.{Element}
use Rattle.uca_weights.specs.Element.{weight}
use Rattle.uca_model.specs.WellFormed.{skips_a_level}
use Rattle.uca_model.specs.Gap.{weight_with_gap, with_gap}
use Rattle.uca_model.specs.Tailoring.{Anchor, anchor_of, is_high, raised}
use Rattle.uca_model.proofs.AnchorElements.{or_false}
use Rattle.uca_model.proofs.AnchorPlaces.{ends_in_a_weight}
use Rattle.uca_model.proofs.GapAtWeights.{weight_with_gap-is_zero}
use Rattle.uca_tailor.specs.TailoringLaws.{weights_at}
use Rattle.uca_tailor.proofs.Levels.{IsLevel, IsBelow, first_of_second, first_of_third, second_of_third, weight-with_gap, weight-raised, weight-shifted_above, weight-raised_above}

-- an element that is well-formed: where a weight is zero, those at the levels below it are
abbrev pub IsFull : Element → Type 0
IsFull e = (e.l2 ≡ 0 → e.l1 ≡ 0) × (e.l3 ≡ 0 → e.l2 ≡ 0)

-- ## Weights of a level

pub parts_of : (P : Element → Type 0) (xs ys : List Element) → AllByRecursion P (xs ++ ys) → AllByRecursion P xs × AllByRecursion P ys
parts_of P [] ys h = (tt, h)
parts_of P (x ∷ xs) ys h = let p = parts_of P xs ys h.1 in ((h.0, p.0), p.1)

weights_at-append : (j : ℕ) (xs ys : List Element) → weights_at j (xs ++ ys) ≡ weights_at j xs ++ weights_at j ys
weights_at-append j [] ys = refl
weights_at-append j (x ∷ xs) ys = elim (weight j x == 0) as (λ b. cond (not b) (weight j x ∷ weights_at j (xs ++ ys)) (weights_at j (xs ++ ys)) ≡ cond (not b) (weight j x ∷ weights_at j xs) (weights_at j xs) ++ weights_at j ys) [
  | true ↦ weights_at-append j xs ys
  | false ↦ ap (λ z. weight j x ∷ z) (weights_at-append j xs ys)
]

weights_at-none : (j : ℕ) (es : List Element) → AllByRecursion (λ e. weight j e ≡ 0) es → weights_at j es ≡ []
weights_at-none j [] h = refl
weights_at-none j (e ∷ es) h = ap (λ b. cond (not b) (weight j e ∷ weights_at j es) (weights_at j es)) (eq-eqb (weight j e) 0 h.0) ∙ weights_at-none j es h.1

weights_at-cons : (j : ℕ) (e : Element) (es fs : List Element) (f : Element) → weight j e ≡ weight j f → weights_at j es ≡ weights_at j fs → weights_at j (e ∷ es) ≡ weights_at j (f ∷ fs)
weights_at-cons j e es fs f p q = ap₂ (λ x xs. cond (not (x == 0)) (x ∷ xs) xs) p q

pub weights_at-same : (j : ℕ) (f : Element → Element) → ((e : Element) → weight j (f e) ≡ weight j e) → (es : List Element) → weights_at j (map f es) ≡ weights_at j es
weights_at-same j f alike [] = refl
weights_at-same j f alike (e ∷ es) = weights_at-cons j (f e) (map f es) es e (alike e) (weights_at-same j f alike es)

zero_above : (j m : ℕ) (e : Element) → IsBelow j m → IsFull e → weight m e ≡ 0 → weight j e ≡ 0
zero_above j m e first_of_second f z = f.0 z
zero_above j m e first_of_third f z = f.0 (f.1 z)
zero_above j m e second_of_third f z = f.1 z

zeros : (j m : ℕ) (es : List Element) → IsBelow j m → AllByRecursion IsFull es → AllByRecursion (λ e. weight m e ≡ 0) es → AllByRecursion (λ e. weight j e ≡ 0) es
zeros j m [] b h n = tt
zeros j m (e ∷ es) b h n = (zero_above j m e b h.0 n.0, zeros j m es b h.1 n.1)

-- below the level of a relation the base has the weights of the anchor
pub placed_below : (j m w : ℕ) (es : List Element) (a : Anchor) → anchor_of m es ≡ Some a → IsBelow j m → AllByRecursion IsFull es
    → weights_at j (map (with_gap m w) a.before ++ raised m a.last ∷ []) ≡ weights_at j es
placed_below j m w es a h b full =
    let s = ends_in_a_weight m es a h in
    let rest : AllByRecursion IsFull (a.last ∷ s.dropped) = (parts_of IsFull a.before (a.last ∷ s.dropped) (subst (AllByRecursion IsFull) s.parts full)).1 in
    weights_at-append j (map (with_gap m w) a.before) (raised m a.last ∷ []) ∙ ap₂ (λ x y. x ++ y) (weights_at-same j (with_gap m w) (λ e. weight-shifted_above j m w e b) a.before)
    (weights_at-cons j (raised m a.last) [] s.dropped a.last (weight-raised_above j m a.last b) (sym (weights_at-none j s.dropped (zeros j m s.dropped b rest.1 s.none))))
    ∙ sym (ap (weights_at j) s.parts ∙ weights_at-append j a.before (a.last ∷ s.dropped))

-- at the level of a relation the anchor ends in its weight
some_weight : (m : ℕ) (e : Element) → (weight m e ≡ 0 → ⊥) → weights_at m (e ∷ []) ≡ weight m e ∷ []
some_weight m e h = ap (λ b. cond (not b) (weight m e ∷ []) []) (ne_eqb (weight m e) 0 h)

pub placed_anchor : (m : ℕ) (es : List Element) (a : Anchor) → anchor_of m es ≡ Some a → weights_at m es ≡ weights_at m a.before ++ weight m a.last ∷ []
placed_anchor m es a h =
    let s = ends_in_a_weight m es a h in
    ap (weights_at m) s.parts ∙ weights_at-append m a.before (a.last ∷ s.dropped)
    ∙ ap (λ x. weights_at m a.before ++ x) (weights_at-cons m a.last s.dropped [] a.last refl (weights_at-none m s.dropped s.none) ∙ some_weight m a.last s.some)

pub weights_at-weight_with_gap : (m w : ℕ) → IsLevel m → (es : List Element) → weights_at m (map (with_gap m w) es) ≡ map (weight_with_gap m w) (weights_at m es)
weights_at-weight_with_gap m w l [] = refl
weights_at-weight_with_gap m w l (e ∷ es) = ap₂ (λ x xs. cond (not (x == 0)) (x ∷ xs) xs) (weight-with_gap m w e l) (weights_at-weight_with_gap m w l es) ∙ by_zero (eqb (weight m e) 0) (weight_with_gap-is_zero m w (weight m e)) where
  by_zero : (b : Bool) → eqb (weight_with_gap m w (weight m e)) 0 ≡ b → cond (not (eqb (weight_with_gap m w (weight m e)) 0)) (weight_with_gap m w (weight m e) ∷ map (weight_with_gap m w) (weights_at m es)) (map (weight_with_gap m w) (weights_at m es)) ≡ map (weight_with_gap m w) (cond (not b) (weight m e ∷ weights_at m es) (weights_at m es))
  by_zero true z = ap (λ b. cond (not b) (weight_with_gap m w (weight m e) ∷ map (weight_with_gap m w) (weights_at m es)) (map (weight_with_gap m w) (weights_at m es))) z
  by_zero false z = ap (λ b. cond (not b) (weight_with_gap m w (weight m e) ∷ map (weight_with_gap m w) (weights_at m es)) (map (weight_with_gap m w) (weights_at m es))) z

-- and the base in the next one, after the moved weights of what comes before
pub placed_base : (m w : ℕ) (a : Anchor) → IsLevel m → weights_at m (map (with_gap m w) a.before ++ raised m a.last ∷ []) ≡ map (weight_with_gap m w) (weights_at m a.before) ++ (weight m a.last + 1) ∷ []
placed_base m w a l =
    weights_at-append m (map (with_gap m w) a.before) (raised m a.last ∷ [])
    ∙ ap₂ (λ x y. x ++ y) (weights_at-weight_with_gap m w l a.before) (some_weight m (raised m a.last) above ∙ ap (λ x. x ∷ []) (weight-raised m a.last l)) where
      above : weight m (raised m a.last) ≡ 0 → ⊥
      above e = let more : weight m a.last + 1 ≡ 0 = sym (weight-raised m a.last l) ∙ e in absurd (omega arith)

-- ## An anchor that is well-formed

full_one : (a b c : ℕ) → nat_le 0x8000 a ≡ false → (nat_lt a 0x8000 && (not (a == 0) && b == 0 || not (b == 0) && c == 0)) ≡ false → (b ≡ 0 → a ≡ 0) × (c ≡ 0 → b ≡ 0)
full_one a b c h e = (λ z. grind (arith, nat_tests), λ z. grind (arith, nat_tests))

pub all_full : (es : List Element) → list_any is_high es ≡ false → list_any skips_a_level es ≡ false → AllByRecursion IsFull es
all_full [] h e = tt
all_full (x ∷ es) h e =
    let p = or_false (is_high x) (list_any is_high es) h in
    let q = or_false (skips_a_level x) (list_any skips_a_level es) e in
    (full_one x.l1 x.l2 x.l3 p.0 q.0, all_full es p.1 q.1)
