-- The order of keys, level after level.
use Rattle.std.proofs.Common.{◌⊎◌, ◌≡◌, ℕ, suc, zero, ◌+◌, ◌-◌, ◌/◌, ◌%◌, ◌^◌, ◌≤◌, ◌<◌, true, false, ◌==◌, List, [], ◌∷◌, ◌++◌, flat_map, take, refl, sym, ap, ap₂, subst, ◌∙◌, arith, inl, inr, append_assoc, ne_eqb}
use Rattle.std.proofs.lemmas.Bool.{cases_Bool, cases_lt, cond-true, cond-false}
use Rattle.std.proofs.lemmas.Bool.Decides.{nat_tests}
use Rattle.std.proofs.lemmas.List.Concat.{flat_map-append}
use Rattle.std.specs.declared.cmp.Ordering.{Ordering}
use Rattle.std.specs.declared.cmp.Ordering.TheVariants.{Less, Equal, Greater}
use Rattle.std.specs.Ordering.{nat_cmp, ordering_then, eq_by_cmp, is_eq}
use Rattle.unicode_normalization.specs.Forms.{nfd}
use Rattle.uca_weights.specs.declared.settings.Settings.{Settings}
use Rattle.uca_weights.specs.declared.settings.Strength.{Strength}
use Rattle.uca_weights.specs.declared.settings.Strength.TheVariants.{Primary, Secondary, Tertiary, Quaternary, Identical}
use Rattle.uca_weights.specs.Settings.{levels}
use Rattle.uca_weights.specs.VariableWeighting.{weighted}
use Rattle.uca_model.specs.Table.{ElementTable}
use Rattle.uca_model.specs.CollationElements.{elements}
use Rattle.uca_model.specs.SortKey.{weight_bytes, code_point_bytes, joined, all_levels, key_order, sort_key}
use Rattle.uca_model.specs.Laws.{AreWeights, AreCodePoints}
use Rattle.uca_model.specs.LevelWeights.{level_list}
use Rattle.uca_model.specs.DecidingLevel.{list_order, bytes_at, key_from, deciding_from, deciding_level, OrdersLevel}
use Rattle.uca_model.proofs.WeightLemmas.{HasWeights}
use Rattle.uca_model.proofs.OrderLemmas.{two_bytes, then_assoc, level_order, last_order, high}

-- ---- a key as its levels, one after the other

pub sort_key-levels : (t : ElementTable) (s : Settings) (text : List ℕ) → sort_key t s text ≡ key_from (levels s.strength - 1) 1 (level_list t s.weighting text)
unfolding sort_key
sort_key-levels t s text = by_strength s.strength
  where
    by_strength : (strength : Strength) → joined (take (levels strength) (all_levels (weighted s.weighting (elements t (nfd text))) (nfd text))) ≡ key_from (levels strength - 1) 1 (level_list t s.weighting text)
    by_strength Primary = refl
    by_strength Secondary = refl
    by_strength Tertiary = refl
    by_strength Quaternary = refl
    by_strength Identical = refl

-- ---- one level after the other

then_decides : (o p : Ordering) → (o ≡ Equal → ⊥) → ordering_then o p ≡ o
then_decides Less p h = refl
then_decides Equal p h = absurd (h refl)
then_decides Greater p h = refl

-- the level decides
pub key_from-here : (n level : ℕ) (la lb : ℕ → List ℕ) (o : Ordering) → OrdersLevel level (la level) (lb level) o → level + n ≤ 5 → (o ≡ Equal → ⊥) → key_order (key_from n level la) (key_from n level lb) ≡ o
key_from-here zero level la lb o orders inside other = orders.last
key_from-here (suc n) level la lb o orders inside other = orders.next (omega arith) (key_from n (level + 1) la) (key_from n (level + 1) lb) ∙ then_decides o _ other

-- it is the last one
pub key_from-last : (level : ℕ) (la lb : ℕ → List ℕ) (o : Ordering) → OrdersLevel level (la level) (lb level) o → key_order (key_from 0 level la) (key_from 0 level lb) ≡ o
key_from-last level la lb o orders = orders.last

-- it leaves the order to the next one
pub key_from-next : (n level : ℕ) (la lb : ℕ → List ℕ) (o : Ordering) → OrdersLevel level (la level) (lb level) o → level + suc n ≤ 5 → o ≡ Equal
    → key_order (key_from (suc n) level la) (key_from (suc n) level lb) ≡ key_order (key_from n (level + 1) la) (key_from n (level + 1) lb)
key_from-next n level la lb o orders inside equal =
    let later = key_order (key_from n (level + 1) la) (key_from n (level + 1) lb) in
    orders.next (omega arith) (key_from n (level + 1) la) (key_from n (level + 1) lb) ∙ ap (λ r. ordering_then r later) equal

-- the test of lists that do not differ
pub same-equal : (xs ys : List ℕ) → list_order xs ys ≡ Equal → eq_by_cmp list_order xs ys ≡ true
same-equal xs ys h = ap is_eq h

pub same-other : (xs ys : List ℕ) → (list_order xs ys ≡ Equal → ⊥) → eq_by_cmp list_order xs ys ≡ false
same-other xs ys h = not_equal (list_order xs ys) h
  where
    not_equal : (o : Ordering) → (o ≡ Equal → ⊥) → is_eq o ≡ false
    not_equal Less h = refl
    not_equal Equal h = absurd (h refl)
    not_equal Greater h = refl

equal_or : (o : Ordering) → (o ≡ Equal) ⊎ (o ≡ Equal → ⊥)
equal_or Less = inr (λ e. cc)
equal_or Equal = inl refl
equal_or Greater = inr (λ e. cc)

-- keys are in the order of the lists of the deciding level
key_from-decides : (n level : ℕ) (la lb : ℕ → List ℕ) → level + n ≤ 5 → ((k : ℕ) → level ≤ k → k ≤ level + n → OrdersLevel k (la k) (lb k) (list_order (la k) (lb k)))
    → key_order (key_from n level la) (key_from n level lb) ≡ list_order (la (deciding_from n level la lb)) (lb (deciding_from n level la lb))
key_from-decides zero level la lb inside orders = (orders level (omega arith) (omega arith)).last
key_from-decides (suc n) level la lb inside orders =
    let here = orders level (omega arith) (omega arith) in
    elim (equal_or (list_order (la level) (lb level))) [
      | inl equal ↦
          key_from-next n level la lb _ here inside equal
          ∙ key_from-decides n (level + 1) la lb (omega arith) (λ k low top. orders k (omega arith) (omega arith))
          ∙ sym (ap (λ d. list_order (la d) (lb d)) (cond-true _ _ _ (same-equal (la level) (lb level) equal)))
      | inr other ↦
          key_from-here (suc n) level la lb _ here inside other
          ∙ sym (ap (λ d. list_order (la d) (lb d)) (cond-false _ _ _ (same-other (la level) (lb level) other)))
    ]

-- ---- lists of one level

pub at_weights : (level : ℕ) (xs : List ℕ) → level < 5 → bytes_at level xs ≡ flat_map weight_bytes xs
at_weights level xs h = cond-false _ _ _ (ne_eqb level 5 (λ e. absurd (omega arith)))

pub OrdersLevel-weights : (level : ℕ) (xs ys : List ℕ) → level < 5 → AreWeights xs → AreWeights ys → OrdersLevel level xs ys (list_order xs ys)
OrdersLevel-weights level xs ys h p q =
    record {
      list = refl;
      last = ap₂ key_order (at_weights level xs h) (at_weights level ys h) ∙ last_order xs ys p q;
      next = λ _ a b. ap₂ (λ u v. key_order (u ++ 0 ∷ 0 ∷ a) (v ++ 0 ∷ 0 ∷ b)) (at_weights level xs h) (at_weights level ys h) ∙ level_order xs ys a b p q;
    }

top_byte : (x : ℕ) → x < 2 ^ 24 → x / 65536 % 256 ≡ x / 256 / 256
top_byte x h = omega arith

pub three_bytes : (x y : ℕ) → x < 2 ^ 24 → y < 2 ^ 24
    → ordering_then (nat_cmp (x / 65536 % 256) (y / 65536 % 256)) (ordering_then (nat_cmp (x / 256 % 256) (y / 256 % 256)) (nat_cmp (x % 256) (y % 256))) ≡ nat_cmp x y
three_bytes x y h g =
    ap₂ (λ a b. ordering_then (nat_cmp a b) (ordering_then (nat_cmp (x / 256 % 256) (y / 256 % 256)) (nat_cmp (x % 256) (y % 256)))) (top_byte x h) (top_byte y g)
    ∙ then_assoc (nat_cmp (x / 256 / 256) (y / 256 / 256)) (nat_cmp (x / 256 % 256) (y / 256 % 256)) (nat_cmp (x % 256) (y % 256))
    ∙ ap (λ o. ordering_then o (nat_cmp (x % 256) (y % 256))) (two_bytes (x / 256) (y / 256))
    ∙ two_bytes x y

-- two code points, and what follows them
pub point_first : (x y : ℕ) (a b : List ℕ) → x < 2 ^ 24 → y < 2 ^ 24 → key_order (code_point_bytes x ++ a) (code_point_bytes y ++ b) ≡ ordering_then (nat_cmp x y) (key_order a b)
point_first x y a b h g =
    let rest = key_order a b in
    ap (ordering_then (nat_cmp (x / 65536 % 256) (y / 65536 % 256))) (then_assoc (nat_cmp (x / 256 % 256) (y / 256 % 256)) (nat_cmp (x % 256) (y % 256)) rest)
    ∙ then_assoc (nat_cmp (x / 65536 % 256) (y / 65536 % 256)) (ordering_then (nat_cmp (x / 256 % 256) (y / 256 % 256)) (nat_cmp (x % 256) (y % 256))) rest
    ∙ ap (λ o. ordering_then o rest) (three_bytes x y h g)

-- two weights, and what follows them
pub weight_first : (x y : ℕ) (a b : List ℕ) → x < 65536 → y < 65536 → key_order (weight_bytes x ++ a) (weight_bytes y ++ b) ≡ ordering_then (nat_cmp x y) (key_order a b)
weight_first x y a b h g =
    let rest = key_order a b in
    ap₂ (λ u v. ordering_then (nat_cmp u v) (ordering_then (nat_cmp (x % 256) (y % 256)) rest)) (high x h) (high y g)
    ∙ then_assoc (nat_cmp (x / 256) (y / 256)) (nat_cmp (x % 256) (y % 256)) rest
    ∙ ap (λ o. ordering_then o rest) (two_bytes x y)

points_order : (xs ys : List ℕ) → AreCodePoints xs → AreCodePoints ys → key_order (flat_map code_point_bytes xs) (flat_map code_point_bytes ys) ≡ list_order xs ys
points_order [] [] p q = refl
points_order [] (y ∷ ys) p q = refl
points_order (x ∷ xs) [] p q = refl
points_order (x ∷ xs) (y ∷ ys) p q =
    point_first x y (flat_map code_point_bytes xs) (flat_map code_point_bytes ys) p.0 q.0
    ∙ ap (ordering_then (nat_cmp x y)) (points_order xs ys p.1 q.1)

pub OrdersLevel-points : (xs ys : List ℕ) → AreCodePoints xs → AreCodePoints ys → OrdersLevel 5 xs ys (list_order xs ys)
OrdersLevel-points xs ys p q = record { list = refl; last = points_order xs ys p q; next = λ h a b. absurd (omega arith) }

-- ---- the law of keys

pub key_order-decided : (t : ElementTable) (s : Settings) (a b : List ℕ) → HasWeights t s a → HasWeights t s b
    → key_order (sort_key t s a) (sort_key t s b) ≡ list_order (level_list t s.weighting a (deciding_level t s a b)) (level_list t s.weighting b (deciding_level t s a b))
key_order-decided t s a b p q =
    let n = levels s.strength - 1 in
    let few : levels s.strength ≤ 5 = levels-le s.strength in
    ap₂ key_order (sort_key-levels t s a) (sort_key-levels t s b)
    ∙ key_from-decides n 1 (level_list t s.weighting a) (level_list t s.weighting b) (omega arith)
    (λ k low top. elim (cases_lt k 5) [
      | inl weights ↦ OrdersLevel-weights k _ _ weights (p.weights k low weights) (q.weights k low weights)
      | inr points ↦ let last : 5 ≡ k = omega arith in subst (λ l. OrdersLevel l (level_list t s.weighting a l) (level_list t s.weighting b l) (list_order (level_list t s.weighting a l) (level_list t s.weighting b l))) last (OrdersLevel-points (nfd a) (nfd b) p.points q.points)
    ])
  where
    levels-le : (strength : Strength) → levels strength ≤ 5
    levels-le Primary = omega arith
    levels-le Secondary = omega arith
    levels-le Tertiary = omega arith
    levels-le Quaternary = omega arith
    levels-le Identical = omega arith

-- ---- lists that are read in step

order-front : (front xs ys : List ℕ) → list_order (front ++ xs) (front ++ ys) ≡ list_order xs ys
order-front [] xs ys = refl
order-front (f ∷ front) xs ys = ap (λ o. ordering_then o (list_order (front ++ xs) (front ++ ys))) (nat_cmp-same f) ∙ order-front front xs ys
  where
    nat_cmp-same : (n : ℕ) → nat_cmp n n ≡ Equal
    nat_cmp-same n = grind (arith, nat_tests)

bytes-front : (level : ℕ) (front xs : List ℕ) → bytes_at level (front ++ xs) ≡ bytes_at level front ++ bytes_at level xs
bytes-front level front xs =
    elim (cases_Bool (level == 5)) [
      | inl five ↦ cond-true _ _ _ five ∙ flat_map-append code_point_bytes front xs ∙ sym (ap₂ (λ u v. u ++ v) (cond-true _ _ _ five) (cond-true _ _ _ five))
      | inr other ↦ cond-false _ _ _ other ∙ flat_map-append weight_bytes front xs ∙ sym (ap₂ (λ u v. u ++ v) (cond-false _ _ _ other) (cond-false _ _ _ other))
    ]

-- a common front does not count
pub OrdersLevel-front : (level : ℕ) (front xs ys : List ℕ) (o : Ordering) → OrdersLevel level xs ys o → OrdersLevel level (front ++ xs) (front ++ ys) o
OrdersLevel-front level front xs ys o h =
    record {
      list = h.list ∙ sym (order-front front xs ys);
      last = ap₂ key_order (bytes-front level front xs) (bytes-front level front ys) ∙ order-front (bytes_at level front) (bytes_at level xs) (bytes_at level ys) ∙ h.last;
      next = λ inside a b.
          ap₂ (λ u v. key_order (u ++ 0 ∷ 0 ∷ a) (v ++ 0 ∷ 0 ∷ b)) (bytes-front level front xs) (bytes-front level front ys)
          ∙ ap₂ key_order (append_assoc (bytes_at level front) (bytes_at level xs) (0 ∷ 0 ∷ a)) (append_assoc (bytes_at level front) (bytes_at level ys) (0 ∷ 0 ∷ b))
          ∙ order-front (bytes_at level front) (bytes_at level xs ++ 0 ∷ 0 ∷ a) (bytes_at level ys ++ 0 ∷ 0 ∷ b)
          ∙ h.next inside a b;
    }

-- ---- the deciding level

pub levels-within : (strength : Strength) → (1 ≤ levels strength) × (levels strength ≤ 5)
levels-within Primary = (omega arith, omega arith)
levels-within Secondary = (omega arith, omega arith)
levels-within Tertiary = (omega arith, omega arith)
levels-within Quaternary = (omega arith, omega arith)
levels-within Identical = (omega arith, omega arith)

pub deciding-here : (n level : ℕ) (la lb : ℕ → List ℕ) (o : Ordering) → o ≡ list_order (la level) (lb level) → (o ≡ Equal → ⊥) → deciding_from n level la lb ≡ level
deciding-here zero level la lb o same other = refl
deciding-here (suc n) level la lb o same other = cond-false _ _ _ (same-other (la level) (lb level) (λ e. other (same ∙ e)))

pub deciding-last : (n level : ℕ) (la lb : ℕ → List ℕ) → n ≡ 0 → deciding_from n level la lb ≡ level
deciding-last n level la lb none = ap (λ k. deciding_from k level la lb) none

pub deciding-next : (n level : ℕ) (la lb : ℕ → List ℕ) (o : Ordering) → o ≡ list_order (la level) (lb level) → o ≡ Equal → deciding_from (suc n) level la lb ≡ deciding_from n (level + 1) la lb
deciding-next n level la lb o same equal = cond-true _ _ _ (same-equal (la level) (lb level) (sym same ∙ equal))
