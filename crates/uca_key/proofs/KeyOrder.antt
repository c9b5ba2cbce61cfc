-- The byte order of sort keys is the order of their levels, and what decides the order of the bytes of packed keys.
use Rattle.uca_key.proofs.Common.{◌⊎◌, ◌≡◌, ℕ, suc, zero, ◌+◌, ◌-◌, ◌≤◌, ◌<◌, List, [], ◌∷◌, ◌++◌, refl, ap, sym, ap₂, subst, ◌∙◌, arith, inl, inr, cases_lt, cond-true, cond-false, lt-ltb, le-ltb, nat_tests, Ordering, Less, Equal, Greater, nat_cmp, ordering_then, nfd, Settings, levels, ElementTable, list_order, key_from, OrdersLevel, level_list, weight_bytes, key_order, sort_key, sort_key-levels, levels-within, weight_first, OrdersLevel-weights, OrdersLevel-points, HasWeights, other_bytes, common_steps}

-- ---- bytes and weights

pub is_less : (x y : ℕ) → x < y → nat_cmp x y ≡ Less
is_less x y h = grind (arith, nat_tests)

pub is_greater : (x y : ℕ) → y < x → nat_cmp x y ≡ Greater
is_greater x y h = grind (arith, nat_tests)

pub is_equal : (x y : ℕ) → x ≡ y → nat_cmp x y ≡ Equal
is_equal x y h = grind (arith, nat_tests)

-- ---- a weight that is not the common one

other_one : (w : ℕ) → w < 254 → other_bytes w ≡ w ∷ []
other_one w h = cond-true _ _ _ (lt-ltb w 254 h)

other_three : (w : ℕ) → 254 ≤ w → other_bytes w ≡ 254 ∷ weight_bytes w
other_three w h = cond-false _ _ _ (le-ltb w 254 h)

-- two of them, and what follows them
pub other_first : (x y : ℕ) (a b : List ℕ) → x < 65536 → y < 65536 → key_order (other_bytes x ++ a) (other_bytes y ++ b) ≡ ordering_then (nat_cmp x y) (key_order a b)
other_first x y a b h g = grind (arith, common_steps, cases_lt, other_one, other_three, is_less, is_greater, weight_first)

-- ---- the first of some bytes

-- it is within these
pub record Begins (bytes : List ℕ) (low high : ℕ) : Type 0 where
  pub head : ℕ
  pub tail : List ℕ
  pub is : bytes ≡ head ∷ tail
  pub from : low ≤ head
  pub to : head ≤ high

-- below, at or above the common weight
abbrev pub Kinds : ℕ → ℕ → Type 0
Kinds w c = (w < c) ⊎ ((w ≡ c) ⊎ (c < w))

pub kind_of : (w c : ℕ) → Kinds w c
kind_of w c = elim (cases_lt w c) [ inl below ↦ inl below | inr h ↦ elim (cases_lt c w) [ inl above ↦ inr (inr above) | inr g ↦ inr (inl (omega arith)) ] ]

-- the first bytes differ
pub heads_less : (a b r s : List ℕ) (la ha lb hb : ℕ) → Begins a la ha → Begins b lb hb → ha < lb → key_order (a ++ r) (b ++ s) ≡ Less
heads_less a b r s la ha lb hb p q apart = grind (arith, common_steps, is_less)

-- the first weights are the same
pub lists_same : (x y : ℕ) (xs ys : List ℕ) (o : Ordering) → x ≡ y → ordering_then (key_order (x ∷ xs) (y ∷ ys)) o ≡ ordering_then (key_order xs ys) o
lists_same x y xs ys o h = ap (λ p. ordering_then (ordering_then p (key_order xs ys)) o) (is_equal x y h)

-- ---- byte strings

-- the first bytes are the same
pub firsts_same : (h g : ℕ) (s t : List ℕ) → h ≡ g → key_order (h ∷ s) (g ∷ t) ≡ key_order s t
firsts_same h g s t same = ap (λ o. ordering_then o (key_order s t)) (is_equal h g same)

-- the other way round
pub flipped : (a b : List ℕ) → key_order a b ≡ Less → key_order b a ≡ Greater
flipped [] [] h = absurd (cc)
flipped [] (y ∷ b) h = refl
flipped (x ∷ a) [] h = absurd (cc)
flipped (x ∷ a) (y ∷ b) h = elim (kind_of x y) [
  | inl below ↦ ap (λ o. ordering_then o (key_order b a)) (is_greater y x below)
  | inr (inl same) ↦ firsts_same y x b a (sym same) ∙ flipped a b (sym (firsts_same x y a b same) ∙ h)
  | inr (inr above) ↦ let e : Greater ≡ Less = sym (ap (λ o. ordering_then o (key_order a b)) (is_greater x y above)) ∙ h in absurd (cc)
]

-- ---- keys

-- the order of the lists from a level on, with this many levels after it: the first that differ decide
abbrev pub ordered_from : ℕ → ℕ → (ℕ → List ℕ) → (ℕ → List ℕ) → Ordering
ordered_from zero level xs ys = list_order (xs level) (ys level)
ordered_from (suc n) level xs ys = ordering_then (list_order (xs level) (ys level)) (ordered_from n (level + 1) xs ys)

-- the order of sort keys from a level on
key_from-ordered : (n level : ℕ) (xs ys : ℕ → List ℕ) → level + n ≤ 5 → ((k : ℕ) → level ≤ k → k ≤ level + n → OrdersLevel k (xs k) (ys k) (list_order (xs k) (ys k)))
    → key_order (key_from n level xs) (key_from n level ys) ≡ ordered_from n level xs ys
key_from-ordered zero level xs ys inside orders = (orders level (omega arith) (omega arith)).last
key_from-ordered (suc n) level xs ys inside orders = grind (arith, common_steps, key_from-ordered n (level + 1) xs ys (omega arith) (λ k low top. orders k (omega arith) (omega arith)))

-- the order of sort keys
pub sort_key-ordered : (t : ElementTable) (s : Settings) (a b : List ℕ) → HasWeights t s a → HasWeights t s b
    → key_order (sort_key t s a) (sort_key t s b) ≡ ordered_from (levels s.strength - 1) 1 (level_list t s.weighting a) (level_list t s.weighting b)
sort_key-ordered t s a b p q =
    let few : levels s.strength ≤ 5 = (levels-within s.strength).1 in
    ap₂ key_order (sort_key-levels t s a) (sort_key-levels t s b)
    ∙ key_from-ordered (levels s.strength - 1) 1 (level_list t s.weighting a) (level_list t s.weighting b) (omega arith)
    (λ k low top. elim (cases_lt k 5) [
      | inl weights ↦ OrdersLevel-weights k _ _ weights (p.weights k low weights) (q.weights k low weights)
      | inr points ↦ let last : 5 ≡ k = omega arith in subst (λ l. OrdersLevel l (level_list t s.weighting a l) (level_list t s.weighting b l) (list_order (level_list t s.weighting a l) (level_list t s.weighting b l))) last (OrdersLevel-points (nfd a) (nfd b) p.points q.points)
    ])

-- a list and itself
pub same_order : (x y : List ℕ) → x ≡ y → key_order x y ≡ Equal
same_order x y e = subst (λ z. key_order x z ≡ Equal) e (itself x)
  where
    itself : (z : List ℕ) → key_order z z ≡ Equal
    itself [] = refl
    itself (c ∷ z) = ap (λ o. ordering_then o (key_order z z)) (is_equal c c refl) ∙ itself z
