-- The order of keys is that of their level lists, one after the other, and what follows for keys whose lists are equal up to a level.
use Rattle.std.proofs.Common.{◌≡◌, ℕ, suc, zero, ◌+◌, ◌-◌, ◌≤◌, ◌<◌, List, [], ◌∷◌, ◌++◌, refl, sym, ap, ap₂, subst, ◌∙◌, arith, inl, inr}
use Rattle.std.proofs.lemmas.Bool.{cases_lt}
use Rattle.std.proofs.lemmas.Bool.Decides.{nat_tests}
use Rattle.std.specs.declared.cmp.Ordering.{Ordering}
use Rattle.std.specs.declared.cmp.Ordering.TheVariants.{Less, Equal, Greater}
use Rattle.std.specs.Ordering.{nat_cmp, ordering_then, ordering_reverse}
use Rattle.std.specs.Cmp.Lexicographic.{nat_list_cmp_total}
use Rattle.std.specs.FinMap.{nat_cmp-IsAntisymmetric, slice_cmp-IsAntisymmetric}
use Rattle.unicode_normalization.specs.Forms.{nfd}
use Rattle.uca_weights.specs.declared.settings.Settings.{Settings}
use Rattle.uca_weights.specs.Settings.{levels}
use Rattle.uca_model.specs.Table.{ElementTable}
use Rattle.uca_model.specs.LevelWeights.{level_list}
use Rattle.uca_model.specs.SortKey.{key_order, sort_key}
use Rattle.uca_model.specs.DecidingLevel.{list_order, bytes_at, key_from, OrdersLevel}
use Rattle.uca_model.proofs.WeightLemmas.{HasWeights}
use Rattle.uca_model.proofs.LevelLemmas.{levels-within, sort_key-levels, OrdersLevel-weights, OrdersLevel-points}

-- the order of lists from a level on, with this many levels after it
abbrev pub orders : ℕ → ℕ → (ℕ → List ℕ) → (ℕ → List ℕ) → Ordering
orders zero level la lb = list_order (la level) (lb level)
orders (suc n) level la lb = ordering_then (list_order (la level) (lb level)) (orders n (level + 1) la lb)

key_from-orders : (n level : ℕ) (la lb : ℕ → List ℕ) → level + n ≤ 5 → ((k : ℕ) → level ≤ k → k ≤ level + n → OrdersLevel k (la k) (lb k) (list_order (la k) (lb k)))
    → key_order (key_from n level la) (key_from n level lb) ≡ orders n level la lb
key_from-orders zero level la lb inside each = (each level (omega arith) (omega arith)).last
key_from-orders (suc n) level la lb inside each =
    (each level (omega arith) (omega arith)).next (omega arith) (key_from n (level + 1) la) (key_from n (level + 1) lb)
    ∙ ap (ordering_then (list_order (la level) (lb level))) (key_from-orders n (level + 1) la lb (omega arith) (λ k low top. each k (omega arith) (omega arith)))

pub key_order-orders : (t : ElementTable) (s : Settings) (a b : List ℕ) → HasWeights t s a → HasWeights t s b
    → key_order (sort_key t s a) (sort_key t s b) ≡ orders (levels s.strength - 1) 1 (level_list t s.weighting a) (level_list t s.weighting b)
key_order-orders t s a b p q =
    let few = levels-within s.strength in
    let some : 1 ≤ levels s.strength = few.0 in
    let most : levels s.strength ≤ 5 = few.1 in
    ap₂ key_order (sort_key-levels t s a) (sort_key-levels t s b)
    ∙ key_from-orders (levels s.strength - 1) 1 (level_list t s.weighting a) (level_list t s.weighting b) (omega arith)
    (λ k low top. elim (cases_lt k 5) [
      | inl weights ↦ OrdersLevel-weights k _ _ weights (p.weights k low weights) (q.weights k low weights)
      | inr points ↦ let last : 5 ≡ k = omega arith in subst (λ l. OrdersLevel l (level_list t s.weighting a l) (level_list t s.weighting b l) (list_order (level_list t s.weighting a l) (level_list t s.weighting b l))) last (OrdersLevel-points (nfd a) (nfd b) p.points q.points)
    ])

-- lists in the same orders
pub orders-same : (n level : ℕ) (la lb lc ld : ℕ → List ℕ) → ((k : ℕ) → level ≤ k → k ≤ level + n → list_order (la k) (lb k) ≡ list_order (lc k) (ld k)) → orders n level la lb ≡ orders n level lc ld
orders-same zero level la lb lc ld each = each level (omega arith) (omega arith)
orders-same (suc n) level la lb lc ld each = ap₂ ordering_then (each level (omega arith) (omega arith)) (orders-same n (level + 1) la lb lc ld (λ k low top. each k (omega arith) (omega arith)))

-- keys of equal lists
key_from-same : (n level : ℕ) (la lb : ℕ → List ℕ) → ((k : ℕ) → level ≤ k → k ≤ level + n → la k ≡ lb k) → key_from n level la ≡ key_from n level lb
key_from-same zero level la lb each = ap (bytes_at level) (each level (omega arith) (omega arith))
key_from-same (suc n) level la lb each = ap₂ (λ x y. bytes_at level x ++ 0 ∷ 0 ∷ y) (each level (omega arith) (omega arith)) (key_from-same n (level + 1) la lb (λ k low top. each k (omega arith) (omega arith)))

pub sort_key-same : (t : ElementTable) (s : Settings) (a b : List ℕ) → ((k : ℕ) → 1 ≤ k → k ≤ levels s.strength → level_list t s.weighting a k ≡ level_list t s.weighting b k) → sort_key t s a ≡ sort_key t s b
sort_key-same t s a b each =
    let some : 1 ≤ levels s.strength = (levels-within s.strength).0 in
    sort_key-levels t s a ∙ key_from-same (levels s.strength - 1) 1 _ _ (λ k low top. each k low (omega arith)) ∙ sym (sort_key-levels t s b)

-- ## Orders of lists

nat_order-refl : (n : ℕ) → nat_cmp n n ≡ Equal
nat_order-refl n = grind (arith, nat_tests)

pub list_order-refl : (xs : List ℕ) → list_order xs xs ≡ Equal
list_order-refl [] = refl
list_order-refl (x ∷ xs) = ap (λ o. ordering_then o (list_order xs xs)) (nat_order-refl x) ∙ list_order-refl xs

pub list_order-equal : (xs ys : List ℕ) → list_order xs ys ≡ Equal → xs ≡ ys
list_order-equal xs ys e = slice_cmp-IsAntisymmetric nat_cmp-IsAntisymmetric xs ys e

-- equal up to a level, and less there
pub orders-less : (n level k : ℕ) (la lb : ℕ → List ℕ) → level ≤ k → k ≤ level + n → ((j : ℕ) → level ≤ j → j < k → la j ≡ lb j) → list_order (la k) (lb k) ≡ Less → orders n level la lb ≡ Less
orders-less zero level k la lb low top equal less = let is : k ≡ level = omega arith in subst (λ j. list_order (la j) (lb j) ≡ Less) is less
orders-less (suc n) level k la lb low top equal less = elim (cases_lt level k) [
  | inl below ↦
      ap (λ o. ordering_then o (orders n (level + 1) la lb)) (ap (λ x. list_order x (lb level)) (equal level (omega arith) below) ∙ list_order-refl (lb level))
      ∙ orders-less n (level + 1) k la lb (omega arith) (omega arith) (λ j p q. equal j (omega arith) q) less
  | inr here ↦ let is : k ≡ level = omega arith in ap (λ o. ordering_then o (orders n (level + 1) la lb)) (subst (λ j. list_order (la j) (lb j) ≡ Less) is less)
]

-- what lies between two that are equal up to the last level lies between them there
between_step : (o p q : Ordering) → ordering_then o p ≡ Less → ordering_then (ordering_reverse o) q ≡ Less → (p ≡ Less) × (q ≡ Less)
between_step Less p q e f = absurd (cc)
between_step Equal p q e f = (e, f)
between_step Greater p q e f = absurd (cc)

pub orders-between : (n level : ℕ) (la lz lb : ℕ → List ℕ) → ((j : ℕ) → level ≤ j → j < level + n → la j ≡ lb j) → orders n level la lz ≡ Less → orders n level lz lb ≡ Less
    → (list_order (la (level + n)) (lz (level + n)) ≡ Less) × (list_order (lz (level + n)) (lb (level + n)) ≡ Less)
orders-between zero level la lz lb equal e f = let is : level ≡ level + 0 = omega arith in (subst (λ j. list_order (la j) (lz j) ≡ Less) is e, subst (λ j. list_order (lz j) (lb j) ≡ Less) is f)
orders-between (suc n) level la lz lb equal e f =
    let turned : list_order (lz level) (lb level) ≡ ordering_reverse (list_order (la level) (lz level)) = ap (list_order (lz level)) (sym (equal level (omega arith) (omega arith))) ∙ nat_list_cmp_total.antisymm (lz level) (la level) in
    let rest = between_step (list_order (la level) (lz level)) _ _ e (ap (λ o. ordering_then o (orders n (level + 1) lz lb)) (sym turned) ∙ f) in
    let is : level + 1 + n ≡ level + suc n = omega arith in
    subst (λ j. (list_order (la j) (lz j) ≡ Less) × (list_order (lz j) (lb j) ≡ Less)) is (orders-between n (level + 1) la lz lb (λ j p q. equal j (omega arith) (omega arith)) rest.0 rest.1)

-- equal at all levels
both_equal : (o p : Ordering) → ordering_then o p ≡ Equal → (o ≡ Equal) × (p ≡ Equal)
both_equal Less p e = absurd (cc)
both_equal Equal p e = (refl, e)
both_equal Greater p e = absurd (cc)

pub orders-last : (n level : ℕ) (la lb : ℕ → List ℕ) → orders n level la lb ≡ Equal → la (level + n) ≡ lb (level + n)
orders-last zero level la lb e = let is : level ≡ level + 0 = omega arith in subst (λ j. la j ≡ lb j) is (list_order-equal (la level) (lb level) e)
orders-last (suc n) level la lb e = let is : level + 1 + n ≡ level + suc n = omega arith in subst (λ j. la j ≡ lb j) is (orders-last n (level + 1) la lb (both_equal (list_order (la level) (lb level)) _ e).1)
