-- A gap and variable weighting in either order: the level list of moved elements is the moved level list.
use Rattle.std.proofs.Common.{◌≡◌, ℕ, suc, zero, ◌-◌, ◌≤◌, Bool, true, false, cond, not, Some, eqb-true, lit≤, ◌&&◌, ◌||◌, ◌==◌, eqb, List, [], ◌∷◌, ◌++◌, map, filter, reverse, find, slice_index, refl, sym, ap, ap₂, ◌∙◌, arith}
use mathlib.Core.List.{reverse_aux, map-append}
use Rattle.std.specs.Option.{option_map_or}
use Rattle.uca_weights.specs.declared.element.Element.{Element}
use Rattle.uca_weights.specs.declared.settings.Variable.{Variable}
use Rattle.uca_weights.specs.declared.settings.Variable.TheVariants.{NonIgnorable, Blanked, Shifted}
use Rattle.uca_weights.specs.Element.{has_primary, is_variable, is_completely_ignorable}
use Rattle.uca_weights.specs.VariableWeighting.{is_after_variable, weights, weighted_after, weighted, unchanged, ignored}
use Rattle.uca_model.specs.LevelWeights.{level_weights}
use Rattle.uca_model.specs.Gap.{weight_with_gap, weight_with_gap_at, with_gap}
use Rattle.uca_model.proofs.GapAtWeights.{weight_with_gap-zero, weight_with_gap-is_zero, weight_with_gap-high}

-- at each level zero stays, and nothing becomes zero
pub weight_with_gap_at-zero : (m w j : ℕ) → weight_with_gap_at m w j 0 ≡ 0
weight_with_gap_at-zero m w j = elim (eqb m j) as (λ b. cond b (weight_with_gap m w 0) 0 ≡ 0) [ true ↦ weight_with_gap-zero m w | false ↦ refl ]

pub weight_with_gap_at-is_zero : (m w j x : ℕ) → eqb (weight_with_gap_at m w j x) 0 ≡ eqb x 0
weight_with_gap_at-is_zero m w j x = elim (eqb m j) as (λ b. eqb (cond b (weight_with_gap m w x) x) 0 ≡ eqb x 0) [ true ↦ weight_with_gap-is_zero m w x | false ↦ refl ]

-- what an element is does not change
pub has_primary-with_gap : (m w : ℕ) (e : Element) → has_primary (with_gap m w e) ≡ has_primary e
has_primary-with_gap m w e = ap not (weight_with_gap_at-is_zero m w 1 e.l1)

pub is_variable-with_gap : (m w : ℕ) (e : Element) → is_variable (with_gap m w e) ≡ is_variable e
is_variable-with_gap m w e = ap (λ b. e.starred && b) (has_primary-with_gap m w e)

pub is_completely_ignorable-with_gap : (m w : ℕ) (e : Element) → is_completely_ignorable (with_gap m w e) ≡ is_completely_ignorable e
is_completely_ignorable-with_gap m w e = rw (weight_with_gap_at-is_zero m w 1 e.l1, weight_with_gap_at-is_zero m w 2 e.l2, weight_with_gap_at-is_zero m w 3 e.l3) refl

-- the nearest element with a primary weight is the moved one
find-with_gap : (m w : ℕ) (es : List Element) → option_map_or is_variable (find has_primary (map (with_gap m w) es)) false ≡ option_map_or is_variable (find has_primary es) false
find-with_gap m w [] = refl
find-with_gap m w (e ∷ es) = rw (has_primary-with_gap m w e) (
    elim (has_primary e) as (λ b. option_map_or is_variable (cond b (Some (with_gap m w e)) (find has_primary (map (with_gap m w) es))) false ≡ option_map_or is_variable (cond b (Some e) (find has_primary es)) false) [
      | true ↦ is_variable-with_gap m w e
      | false ↦ find-with_gap m w es
    ])

map-reverse_aux : {A B : Type 0} (f : A → B) (xs acc : List A) → reverse_aux (map f xs) (map f acc) ≡ map f (reverse_aux xs acc)
map-reverse_aux f [] acc = refl
map-reverse_aux f (x ∷ xs) acc = map-reverse_aux f xs (x ∷ acc)

pub is_after_variable-with_gap : (m w : ℕ) (es : List Element) → is_after_variable (map (with_gap m w) es) ≡ is_after_variable es
is_after_variable-with_gap m w es = ap (λ xs. option_map_or is_variable (find has_primary xs) false) (map-reverse_aux (with_gap m w) es []) ∙ find-with_gap m w (reverse es)

-- four moved weights: the fourth is a weight of level 1, or FFFF, or zero
abbrev pub moved : ℕ → ℕ → List ℕ → List ℕ
moved m w ws = weight_with_gap_at m w 1 (slice_index ws 0) ∷ weight_with_gap_at m w 2 (slice_index ws 1) ∷ weight_with_gap_at m w 3 (slice_index ws 2) ∷ weight_with_gap_at m w 1 (slice_index ws 3) ∷ []

high_at : (m w x : ℕ) (b : Bool) → eqb m 1 ≡ b → 32768 ≤ x → cond b (weight_with_gap m w x) x ≡ x
high_at m w x true is h = ap (λ k. weight_with_gap k w x) (eqb-true m 1 is) ∙ weight_with_gap-high w x h
high_at m w x false is h = refl

pub weight_with_gap_at-high : (m w x : ℕ) → 32768 ≤ x → weight_with_gap_at m w 1 x ≡ x
weight_with_gap_at-high m w x h = high_at m w x (eqb m 1) refl h

weight_with_gap_at-greatest : (m w : ℕ) → weight_with_gap_at m w 1 65535 ≡ 65535
weight_with_gap_at-greatest m w = weight_with_gap_at-high m w 65535 (lit≤ tt)

moved-ignored : (m w f : ℕ) → moved m w (ignored f) ≡ ignored (weight_with_gap_at m w 1 f)
moved-ignored m w f = rw (weight_with_gap_at-zero m w 1, weight_with_gap_at-zero m w 2, weight_with_gap_at-zero m w 3) refl

by_three : (m w : ℕ) (e : Element) (a b c : Bool)
    → cond a (ignored 0) (cond b (ignored (weight_with_gap_at m w 1 e.l1)) (cond c (ignored 0) (unchanged (with_gap m w e) 65535)))
    ≡ moved m w (cond a (ignored 0) (cond b (ignored e.l1) (cond c (ignored 0) (unchanged e 65535))))
by_three m w e true b c = sym (moved-ignored m w 0 ∙ ap ignored (weight_with_gap_at-zero m w 1))
by_three m w e false true c = sym (moved-ignored m w e.l1)
by_three m w e false false true = sym (moved-ignored m w 0 ∙ ap ignored (weight_with_gap_at-zero m w 1))
by_three m w e false false false = ap (unchanged (with_gap m w e)) (sym (weight_with_gap_at-greatest m w))

pub weights-with_gap : (v : Variable) (m w : ℕ) (after : Bool) (e : Element) → weights v after (with_gap m w e) ≡ moved m w (weights v after e)
weights-with_gap NonIgnorable m w after e = ap (unchanged (with_gap m w e)) (sym (weight_with_gap_at-zero m w 1))
weights-with_gap Blanked m w after e = rw (is_variable-with_gap m w e, weight_with_gap_at-is_zero m w 1 e.l1) (
    elim (is_variable e || e.l1 == 0 && after) as (λ b. cond b (ignored 0) (unchanged (with_gap m w e) 0) ≡ moved m w (cond b (ignored 0) (unchanged e 0))) [
      | true ↦ sym (moved-ignored m w 0 ∙ ap ignored (weight_with_gap_at-zero m w 1))
      | false ↦ ap (unchanged (with_gap m w e)) (sym (weight_with_gap_at-zero m w 1))
    ])
weights-with_gap Shifted m w after e = rw (is_completely_ignorable-with_gap m w e, is_variable-with_gap m w e, weight_with_gap_at-is_zero m w 1 e.l1) (
    by_three m w e (is_completely_ignorable e) (is_variable e) (e.l1 == 0 && after))

-- weighting commutes with making a gap
pub weighted_after-with_gap : (v : Variable) (m w : ℕ) (before es : List Element) → weighted_after v (map (with_gap m w) before) (map (with_gap m w) es) ≡ map (moved m w) (weighted_after v before es)
weighted_after-with_gap v m w before [] = refl
weighted_after-with_gap v m w before (e ∷ es) =
    ap₂ (λ x xs. x ∷ xs)
    (ap (λ b. weights v b (with_gap m w e)) (is_after_variable-with_gap m w before) ∙ weights-with_gap v m w (is_after_variable before) e)
    (ap (λ xs. weighted_after v xs (map (with_gap m w) es)) (sym (map-append (with_gap m w) before (e ∷ []))) ∙ weighted_after-with_gap v m w (before ++ e ∷ []) es)

pub weighted-with_gap : (v : Variable) (m w : ℕ) (es : List Element) → weighted v (map (with_gap m w) es) ≡ map (moved m w) (weighted v es)
weighted-with_gap v m w es = weighted_after-with_gap v m w [] es

-- the level of the weights in a list: those in the fourth list are of level 1, too
abbrev pub source : ℕ → ℕ
source j = cond (eqb j 4) 1 j

-- a level list moved for a gap
filtered : (m w j : ℕ) (xs : List ℕ) → filter (λ x. not (x == 0)) (map (weight_with_gap_at m w j) xs) ≡ map (weight_with_gap_at m w j) (filter (λ x. not (x == 0)) xs)
filtered m w j [] = refl
filtered m w j (x ∷ xs) = rw (weight_with_gap_at-is_zero m w j x) (
    elim (eqb x 0) as (λ b. cond (not b) (weight_with_gap_at m w j x ∷ filter (λ x. not (x == 0)) (map (weight_with_gap_at m w j) xs)) (filter (λ x. not (x == 0)) (map (weight_with_gap_at m w j) xs)) ≡ map (weight_with_gap_at m w j) (cond (not b) (x ∷ filter (λ x. not (x == 0)) xs) (filter (λ x. not (x == 0)) xs))) [
      | true ↦ filtered m w j xs
      | false ↦ ap (λ ys. weight_with_gap_at m w j x ∷ ys) (filtered m w j xs)
    ])

column-moved : (m w : ℕ) (k : ℕ) (f : ℕ → ℕ) (ws : List (List ℕ)) → ((x : List ℕ) → slice_index (moved m w x) k ≡ f (slice_index x k)) → map (λ x. slice_index x k) (map (moved m w) ws) ≡ map f (map (λ x. slice_index x k) ws)
column-moved m w k f [] is = refl
column-moved m w k f (x ∷ ws) is = ap₂ (λ y ys. y ∷ ys) (is x) (column-moved m w k f ws is)

moved_at : (m w level : ℕ) (ws : List ℕ) → 1 ≤ level → level ≤ 4 → slice_index (moved m w ws) (level - 1) ≡ weight_with_gap_at m w (source level) (slice_index ws (level - 1))
moved_at m w zero ws low most = absurd (omega arith)
moved_at m w (suc zero) ws low most = refl
moved_at m w (suc (suc zero)) ws low most = refl
moved_at m w (suc (suc (suc zero))) ws low most = refl
moved_at m w (suc (suc (suc (suc zero)))) ws low most = refl
moved_at m w (suc (suc (suc (suc (suc n))))) ws low most = absurd (omega arith)

pub level_weights-with_gap : (v : Variable) (m w level : ℕ) (es : List Element) → 1 ≤ level → level ≤ 4
    → level_weights level (weighted v (map (with_gap m w) es)) ≡ map (weight_with_gap_at m w (source level)) (level_weights level (weighted v es))
level_weights-with_gap v m w level es low most =
    ap (level_weights level) (weighted-with_gap v m w es)
    ∙ ap (filter (λ x. not (x == 0))) (column-moved m w (level - 1) (weight_with_gap_at m w (source level)) (weighted v es) (λ x. moved_at m w level x low most))
    ∙ filtered m w (source level) (map (λ x. slice_index x (level - 1)) (weighted v es))
