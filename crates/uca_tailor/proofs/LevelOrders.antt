-- Where a gap can be made, making it keeps the order of two lists of elements at each level.
use Rattle.std.proofs.Common.{◌≡◌, ℕ, suc, zero, ◌-◌, ◌≤◌, Bool, true, false, cond, not, ◌&&◌, ◌||◌, ◌==◌, eqb, eqb-true, List, [], ◌∷◌, ◌++◌, map, filter, slice_index, refl, sym, ap, ap₂, ◌∙◌, arith, lit≤}
use Rattle.std.proofs.lemmas.Bool.Decides.{nat_tests}
use Rattle.std.specs.declared.cmp.Ordering.{Ordering}
use Rattle.std.specs.Ordering.{nat_cmp, ordering_then}
use Rattle.std.specs.Cmp.Lexicographic.{slice_cmp}
use Rattle.std.specs.List.{AllByRecursion}
use Rattle.uca_weights.specs.declared.element.Element.{Element}
use Rattle.uca_weights.specs.declared.settings.Variable.{Variable}
use Rattle.uca_weights.specs.declared.settings.Variable.TheVariants.{NonIgnorable, Blanked, Shifted}
use Rattle.uca_weights.specs.Element.{weight, is_variable, is_completely_ignorable}
use Rattle.uca_weights.specs.VariableWeighting.{is_after_variable, weights, weighted_after, weighted, unchanged, ignored}
use Rattle.uca_model.specs.Gap.{weight_with_gap, weight_with_gap_at, with_gap, cannot_move}
use Rattle.uca_model.specs.LevelWeights.{level_weights}
use Rattle.uca_model.proofs.GapAtWeights.{weight_cannot_move, nat_cmp-weight_with_gap}
use Rattle.uca_tailor.proofs.GapAndWeighting.{source, level_weights-with_gap}

-- the order of two lists of elements at one level
abbrev pub level_order : Variable → ℕ → List Element → List Element → Ordering
level_order v level es fs = slice_cmp nat_cmp (level_weights level (weighted v es)) (level_weights level (weighted v fs))

-- a weight of level j can move up when a gap is made at level m
abbrev pub CanMove : ℕ → ℕ → ℕ → ℕ → Type 0
CanMove m w j x = (eqb m j && weight_cannot_move m w x) ≡ false

-- no element of a list is stuck
abbrev pub AllCanMove : ℕ → ℕ → List Element → Type 0
AllCanMove m w es = AllByRecursion (λ e. cannot_move m w e ≡ false) es

by_level : (m w x y : ℕ) (b : Bool) → (b && weight_cannot_move m w x) ≡ false → (b && weight_cannot_move m w y) ≡ false → nat_cmp (cond b (weight_with_gap m w x) x) (cond b (weight_with_gap m w y) y) ≡ nat_cmp x y
by_level m w x y true p q = nat_cmp-weight_with_gap m w x y p q
by_level m w x y false p q = refl

-- where a gap can be made, making it keeps the order, both ways
pub nat_cmp-weight_with_gap_at : (m w j x y : ℕ) → CanMove m w j x → CanMove m w j y → nat_cmp (weight_with_gap_at m w j x) (weight_with_gap_at m w j y) ≡ nat_cmp x y
nat_cmp-weight_with_gap_at m w j x y p q = by_level m w x y (eqb m j) p q

pub slice_cmp-map : (P : ℕ → Type 0) (f : ℕ → ℕ) → ((x y : ℕ) → P x → P y → nat_cmp (f x) (f y) ≡ nat_cmp x y) → (xs ys : List ℕ) → AllByRecursion P xs → AllByRecursion P ys → slice_cmp nat_cmp (map f xs) (map f ys) ≡ slice_cmp nat_cmp xs ys
slice_cmp-map P f kept [] [] p q = refl
slice_cmp-map P f kept [] (y ∷ ys) p q = refl
slice_cmp-map P f kept (x ∷ xs) [] p q = refl
slice_cmp-map P f kept (x ∷ xs) (y ∷ ys) p q = ap₂ ordering_then (kept x y p.0 q.0) (slice_cmp-map P f kept xs ys p.1 q.1)

CanMove-zero : (m w j : ℕ) → CanMove m w j 0
CanMove-zero m w j = elim (eqb m j) as (λ b. (b && weight_cannot_move m w 0) ≡ false) [ true ↦ none m w | false ↦ refl ] where
  none : (m w : ℕ) → weight_cannot_move m w 0 ≡ false
  none m w = grind (arith, nat_tests)

high_can_move : (m w x : ℕ) (b : Bool) → eqb m 1 ≡ b → 32768 ≤ x → (b && weight_cannot_move m w x) ≡ false
high_can_move m w x true is h = ap (λ k. weight_cannot_move k w x) (eqb-true m 1 is) ∙ first w x h where
  first : (w x : ℕ) → 32768 ≤ x → weight_cannot_move 1 w x ≡ false
  first w x h = grind (arith, nat_tests)
high_can_move m w x false is h = refl

pub CanMove-high : (m w x : ℕ) → 32768 ≤ x → CanMove m w 1 x
CanMove-high m w x h = high_can_move m w x (eqb m 1) refl h

-- an element that can move up can do so at each level
can_move_at : (m w j : ℕ) (e : Element) (b : Bool) → eqb m j ≡ b → cannot_move m w e ≡ false → (b && weight_cannot_move m w (weight j e)) ≡ false
can_move_at m w j e true is h = ap (λ k. weight_cannot_move m w (weight k e)) (sym (eqb-true m j is)) ∙ h
can_move_at m w j e false is h = refl

pub CanMove-weight : (m w j : ℕ) (e : Element) → cannot_move m w e ≡ false → CanMove m w j (weight j e)
CanMove-weight m w j e h = can_move_at m w j e (eqb m j) refl h

-- four weights that can move up
abbrev pub FourCanMove : ℕ → ℕ → List ℕ → Type 0
FourCanMove m w ws = CanMove m w 1 (slice_index ws 0) × CanMove m w 2 (slice_index ws 1) × CanMove m w 3 (slice_index ws 2) × CanMove m w 1 (slice_index ws 3)

ignored_can_move : (m w f : ℕ) → CanMove m w 1 f → FourCanMove m w (ignored f)
ignored_can_move m w f h = (CanMove-zero m w 1, CanMove-zero m w 2, CanMove-zero m w 3, h)

unchanged_can_move : (m w f : ℕ) (e : Element) → cannot_move m w e ≡ false → CanMove m w 1 f → FourCanMove m w (unchanged e f)
unchanged_can_move m w f e h g = (CanMove-weight m w 1 e h, CanMove-weight m w 2 e h, CanMove-weight m w 3 e h, g)

either_can_move : (m w : ℕ) (b : Bool) (x y : List ℕ) → FourCanMove m w x → FourCanMove m w y → FourCanMove m w (cond b x y)
either_can_move m w true x y p q = p
either_can_move m w false x y p q = q

pub weights_can_move : (v : Variable) (m w : ℕ) (after : Bool) (e : Element) → cannot_move m w e ≡ false → FourCanMove m w (weights v after e)
weights_can_move NonIgnorable m w after e h = unchanged_can_move m w 0 e h (CanMove-zero m w 1)
weights_can_move Blanked m w after e h = either_can_move m w (is_variable e || e.l1 == 0 && after) _ _ (ignored_can_move m w 0 (CanMove-zero m w 1)) (unchanged_can_move m w 0 e h (CanMove-zero m w 1))
weights_can_move Shifted m w after e h =
    either_can_move m w (is_completely_ignorable e) _ _ (ignored_can_move m w 0 (CanMove-zero m w 1))
    (either_can_move m w (is_variable e) _ _ (ignored_can_move m w e.l1 (CanMove-weight m w 1 e h))
    (either_can_move m w (e.l1 == 0 && after) _ _ (ignored_can_move m w 0 (CanMove-zero m w 1)) (unchanged_can_move m w 65535 e h (CanMove-high m w 65535 (lit≤ tt)))))

weighted_can_move : (v : Variable) (m w : ℕ) (before es : List Element) → AllCanMove m w es → AllByRecursion (FourCanMove m w) (weighted_after v before es)
weighted_can_move v m w before [] h = tt
weighted_can_move v m w before (e ∷ es) h = (weights_can_move v m w (is_after_variable before) e h.0, weighted_can_move v m w (before ++ e ∷ []) es h.1)

column_can_move : (P : List ℕ → Type 0) (Q : ℕ → Type 0) (k : ℕ) → ((x : List ℕ) → P x → Q (slice_index x k)) → (ws : List (List ℕ)) → AllByRecursion P ws → AllByRecursion Q (filter (λ x. not (x == 0)) (map (λ x. slice_index x k) ws))
column_can_move P Q k at [] h = tt
column_can_move P Q k at (x ∷ ws) h = elim (slice_index x k == 0) as (λ b. AllByRecursion Q (cond (not b) (slice_index x k ∷ filter (λ y. not (y == 0)) (map (λ y. slice_index y k) ws)) (filter (λ y. not (y == 0)) (map (λ y. slice_index y k) ws)))) [
  | true ↦ column_can_move P Q k at ws h.1
  | false ↦ (at x h.0, column_can_move P Q k at ws h.1)
]

can_move_of : (m w level : ℕ) (ws : List ℕ) → 1 ≤ level → level ≤ 4 → FourCanMove m w ws → CanMove m w (source level) (slice_index ws (level - 1))
can_move_of m w zero ws low most h = absurd (omega arith)
can_move_of m w (suc zero) ws low most h = h.0
can_move_of m w (suc (suc zero)) ws low most h = h.1
can_move_of m w (suc (suc (suc zero))) ws low most h = h.2
can_move_of m w (suc (suc (suc (suc zero)))) ws low most h = h.3
can_move_of m w (suc (suc (suc (suc (suc n))))) ws low most h = absurd (omega arith)

list_can_move : (v : Variable) (m w level : ℕ) (es : List Element) → 1 ≤ level → level ≤ 4 → AllCanMove m w es → AllByRecursion (CanMove m w (source level)) (level_weights level (weighted v es))
list_can_move v m w level es low most h = column_can_move (FourCanMove m w) (CanMove m w (source level)) (level - 1) (λ x r. can_move_of m w level x low most r) (weighted v es) (weighted_can_move v m w [] es h)

-- the order of two lists, before and after a gap was made
pub level_order-with_gap : (v : Variable) (m w level : ℕ) (es fs : List Element) → 1 ≤ level → level ≤ 4 → AllCanMove m w es → AllCanMove m w fs
    → level_order v level (map (with_gap m w) es) (map (with_gap m w) fs) ≡ level_order v level es fs
level_order-with_gap v m w level es fs low most p q =
    ap₂ (slice_cmp nat_cmp) (level_weights-with_gap v m w level es low most) (level_weights-with_gap v m w level fs low most)
    ∙ slice_cmp-map (CanMove m w (source level)) (weight_with_gap_at m w (source level)) (nat_cmp-weight_with_gap_at m w (source level)) _ _ (list_can_move v m w level es low most p) (list_can_move v m w level fs low most q)
