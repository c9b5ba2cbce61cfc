-- Keys and the paths of their code points in the order of keys.
use Rattle.uca_keys.proofs.Common.{◌≡◌, ℕ, zero, suc, ◌+◌, ◌≤◌, ◌<◌, true, ◌&&◌, eqb, List, [], ◌∷◌, ◌++◌, length, take, drop, get_or, refl, sym, ap, ap₂, subst, ◌∙◌, arith, eqb-true, eq-eqb, length-take, take-take, and_parts, nat_tests, Less, Equal, tied_itself, nat_cmp_total, nat_list_cmp_total, nat_cmp, ordering_then, key_cmp, is_front}
use Rattle.std.specs.declared.cmp.Ordering.{Ordering}

tied : (x y : ℕ) → x ≡ y → nat_cmp x y ≡ Equal
tied x y same = ap (nat_cmp x) (sym same) ∙ tied_itself nat_cmp_total x

-- the first code points of keys in order are in order
upto : (x y : ℕ) (o : Ordering) → ordering_then (nat_cmp x y) o ≡ Less → x ≤ y
upto x y o less = grind (arith, nat_tests)

-- two that differ decide
apart_first : (x y : ℕ) (o : Ordering) → (x ≡ y → ⊥) → ordering_then (nat_cmp x y) o ≡ Less → nat_cmp x y ≡ Less
apart_first x y o other less = grind (arith, nat_tests)

-- and after equal ones the others do
tail_less : (x y : ℕ) (p q : List ℕ) → x ≡ y → key_cmp (x ∷ p) (y ∷ q) ≡ Less → key_cmp p q ≡ Less
tail_less x y p q same less = ap (λ o. ordering_then o (key_cmp p q)) (sym (tied x y same)) ∙ less

-- a path is below what goes on from it
pub below_longer : (p : List ℕ) (x : ℕ) → key_cmp p (p ++ x ∷ []) ≡ Less
below_longer [] x = refl
below_longer (y ∷ p) x = ap (λ o. ordering_then o (key_cmp p (p ++ x ∷ []))) (tied y y refl) ∙ below_longer p x

pub chain : (a b c : List ℕ) → key_cmp a b ≡ Less → key_cmp b c ≡ Less → key_cmp a c ≡ Less
chain a b c f g = nat_list_cmp_total.trans a b c f g

pub first_same : (x y : ℕ) (p q : List ℕ) → x ∷ p ≡ y ∷ q → x ≡ y
first_same x y p q e = ap (λ l. get_or l 0 x) e

-- a greater key is so by the code point after what both begin with
pub decided_after : (a b : List ℕ) (k : ℕ) → key_cmp a b ≡ Less → k ≤ length a → k ≤ length b → take k a ≡ take k b → ((d : ℕ) → k < length a → k < length b → get_or a k d ≡ get_or b k d → ⊥) → (k < length b) × (key_cmp a (take (k + 1) b) ≡ Less)
decided_after [] [] k less in_a in_b same differ = cc
decided_after [] (y ∷ b) zero less in_a in_b same differ = (omega arith, refl)
decided_after [] (y ∷ b) (suc k) less in_a in_b same differ = absurd (omega arith)
decided_after (x ∷ a) [] k less in_a in_b same differ = cc
decided_after (x ∷ a) (y ∷ b) zero less in_a in_b same differ =
    (omega arith, ap (λ o. ordering_then o (key_cmp a [])) (apart_first x y (key_cmp a b) (λ e. differ 0 (omega arith) (omega arith) e) less))
decided_after (x ∷ a) (y ∷ b) (suc k) less in_a in_b same differ =
    let first : x ≡ y = first_same x y (take k a) (take k b) same in
    let one : suc k + 1 ≡ suc (k + 1) = omega arith in
    let rest = decided_after a b k (tail_less x y a b first less) (omega arith) (omega arith) (ap (drop 1) same) (λ d f g e. differ d (omega arith) (omega arith) e) in
    (omega (arith, rest.0), ap (λ m. key_cmp (x ∷ a) (take m (y ∷ b))) one ∙ ap (λ o. ordering_then o (key_cmp a (take (k + 1) b))) (tied x y first) ∙ rest.1)

-- the first code points of a key begin it
pub taken_front : (d : ℕ) (q : List ℕ) → is_front (take d q) q ≡ true
taken_front zero q = refl
taken_front (suc d) [] = refl
taken_front (suc d) (x ∷ q) = ap (λ b. b && is_front (take d q) q) (eq-eqb x x refl) ∙ taken_front d q

-- what begins a key is its first code points
pub front_is : (p k : List ℕ) → is_front p k ≡ true → take (length p) k ≡ p
front_is [] k h = refl
front_is (x ∷ p) [] h = cc
front_is (x ∷ p) (y ∷ k) h = let parts = and_parts (eqb y x) (is_front p k) h in ap₂ (λ z l. z ∷ l) (eqb-true y x parts.0) (front_is p k parts.1)

pub front_from : (p k : List ℕ) → take (length p) k ≡ p → is_front p k ≡ true
front_from p k is = subst (λ l. is_front l k ≡ true) is (taken_front (length p) k)

-- a longer path is not begun by a shorter one
pub front_short : (p k : List ℕ) → is_front p k ≡ true → length p ≤ length k
front_short p k h = let size : length (take (length p) k) ≡ length p = ap length (front_is p k h) in omega (arith, length-take (length p) k)

-- what begins a front begins the key
pub front_of_front : (p q k : List ℕ) → is_front p q ≡ true → is_front q k ≡ true → is_front p k ≡ true
front_of_front p q k f g = front_from p k (sym (take-take (length p) (length q) k (front_short p q f)) ∙ ap (take (length p)) (front_is q k g) ∙ front_is p q f)

-- what goes on from a path and is greater has a greater code point
pub greater_point : (p : List ℕ) (x y : ℕ) → key_cmp (p ++ x ∷ []) (p ++ y ∷ []) ≡ Less → x ≤ y
greater_point [] x y less = upto x y Equal less
greater_point (z ∷ p) x y less = greater_point p x y (tail_less z z (p ++ x ∷ []) (p ++ y ∷ []) refl less)

-- between a path and what goes on from it by one code point are longer ones only
pub longer_between : (p r : List ℕ) (x : ℕ) → key_cmp p r ≡ Less → key_cmp r (p ++ x ∷ []) ≡ Less → length p < length r
longer_between [] [] x less more = cc
longer_between [] (y ∷ r) x less more = omega arith
longer_between (z ∷ p) [] x less more = cc
longer_between (z ∷ p) (y ∷ r) x less more =
    let up : z ≤ y = upto z y (key_cmp p r) less in let down : y ≤ z = upto y z (key_cmp r (p ++ x ∷ [])) more in
    let rest : length p < length r = longer_between p r x (tail_less z y p r (omega arith) less) (tail_less y z r (p ++ x ∷ []) (omega arith) more) in
    omega arith

pub never_less : (a : List ℕ) → key_cmp a a ≡ Less → ⊥
never_less a less = let tie : key_cmp a a ≡ Equal = tied_itself nat_list_cmp_total a in cc
