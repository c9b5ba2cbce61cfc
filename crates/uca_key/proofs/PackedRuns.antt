-- The byte order of levels with runs of a common weight is the order of their weights.
use Rattle.uca_key.proofs.Common.{◌≡◌, ◌==◌, ℕ, ◌+◌, ◌-◌, ◌*◌, ◌≤◌, ◌<◌, cond, nat_lt, List, [], ◌∷◌, ◌++◌, refl, sym, ap, ap₂, ◌∙◌, arith, inl, inr, append_assoc, eq-eqb, ne_eqb, cases_lt, cond-true, cond-false, lt-ltb, le-ltb, nat_tests, Less, nat_cmp, ordering_then, AreWeights, key_order, then_assoc, above_bytes, below_bytes, other_bytes, runs_after, common_steps}
use Rattle.uca_key.proofs.KeyOrder.{Begins, flipped, heads_less, is_equal, is_greater, is_less, kind_of, lists_same, other_first}

-- ---- first bytes

-- the lowest and the highest first byte of a weight above the common one, after a run
abbrev bottom : ℕ → ℕ
bottom n = cond (nat_lt n 2) (221 - 35 * n) (187 - n)

abbrev top : ℕ → ℕ
top n = cond (nat_lt n 2) (255 - 35 * n) (187 - n)

top-next : (n : ℕ) → n < 61 → top (n + 1) < bottom n
top-next n h = grind (arith, nat_tests)

bottom-full : (n : ℕ) → n < 62 → 124 < bottom n
bottom-full n h = grind (arith, nat_tests)

-- ---- a weight above the common one

above_near : (c n w : ℕ) → n < 2 → w - c < 35 → above_bytes c n w ≡ (220 - 35 * n + (w - c)) ∷ []
above_near c n w few near = cond-true _ _ _ (lt-ltb n 2 few) ∙ cond-true _ _ _ (lt-ltb (w - c) 35 near)

above_far : (c n w : ℕ) → n < 2 → 35 ≤ w - c → above_bytes c n w ≡ (255 - 35 * n) ∷ other_bytes w
above_far c n w few far = cond-true _ _ _ (lt-ltb n 2 few) ∙ cond-false _ _ _ (le-ltb (w - c) 35 far)

above_late : (c n w : ℕ) → 2 ≤ n → above_bytes c n w ≡ (187 - n) ∷ other_bytes w
above_late c n w late = cond-false _ _ _ (le-ltb n 2 late)

above_begins : (c n w : ℕ) (rest : List ℕ) → n < 62 → c < w → Begins (above_bytes c n w ++ rest) (bottom n) (top n)
above_begins c n w rest few above = grind (arith, common_steps, cases_lt, cond-true, lt-ltb, above_near, above_far, cond-false, le-ltb, above_late)

-- numbers with the same number before them are in their order
shifted : (d c x y : ℕ) → c < x → c < y → nat_cmp (d + (x - c)) (d + (y - c)) ≡ nat_cmp x y
shifted d c x y h g = grind (arith, common_steps, kind_of, is_less, is_equal, is_greater)

-- two of them after one run, and what follows them
above_first : (c n x y : ℕ) (a b : List ℕ) → n < 62 → c < x → c < y → x < 65536 → y < 65536 → key_order (above_bytes c n x ++ a) (above_bytes c n y ++ b) ≡ ordering_then (nat_cmp x y) (key_order a b)
above_first c n x y a b few x_above y_above x_fits y_fits = grind (arith, common_steps, cases_lt, above_near, shifted, above_far, is_less, is_greater, is_equal, other_first, above_late)

-- two below it
below_first : (n x y : ℕ) (a b : List ℕ) → x < 65536 → y < 65536 → key_order (below_bytes n x ++ a) (below_bytes n y ++ b) ≡ ordering_then (nat_cmp x y) (key_order a b)
below_first n x y a b x_fits y_fits = ap (λ o. ordering_then o (key_order (other_bytes x ++ a) (other_bytes y ++ b))) (is_equal (2 * n + 1) (2 * n + 1) refl) ∙ other_first x y a b x_fits y_fits

-- ---- a level by its first weight

module _ (c n : ℕ) (w : ℕ) (ws : List ℕ) where
  pub run_full : w ≡ c → n ≡ 61 → runs_after c n (w ∷ ws) ≡ 124 ∷ runs_after c 0 ws
  run_full same full = cond-true _ _ _ (eq-eqb w c same) ∙ cond-true _ _ _ (eq-eqb (n + 1) 62 (omega arith))

  pub run_common : w ≡ c → n < 61 → runs_after c n (w ∷ ws) ≡ runs_after c (n + 1) ws
  run_common same less = cond-true _ _ _ (eq-eqb w c same) ∙ cond-false _ _ _ (ne_eqb (n + 1) 62 (λ e. absurd (omega arith)))

  pub run_below : w < c → runs_after c n (w ∷ ws) ≡ below_bytes n w ++ runs_after c 0 ws
  run_below below = cond-false _ _ _ (ne_eqb w c (λ e. absurd (omega arith))) ∙ ap (λ l. l ++ runs_after c 0 ws) (cond-true _ _ _ (lt-ltb w c below))

  pub run_above : c < w → runs_after c n (w ∷ ws) ≡ above_bytes c n w ++ runs_after c 0 ws
  run_above above = cond-false _ _ _ (ne_eqb w c (λ e. absurd (omega arith))) ∙ ap (λ l. l ++ runs_after c 0 ws) (cond-false _ _ _ (le-ltb w c (omega arith)))

-- the rank of what a level begins with: its end, or a weight below, at or above the common one
abbrev rank : ℕ → List ℕ → ℕ
rank c [] = 0
rank c (w ∷ ws) = cond (nat_lt w c) 1 (cond (w == c) 2 3)

-- the lowest and the highest first byte of levels of a rank
abbrev lowest : ℕ → ℕ → ℕ
lowest n k = cond (nat_lt k 3) (2 * n + k) (bottom n)

abbrev highest : ℕ → ℕ → ℕ
highest n k = cond (nat_lt k 2) (2 * n + k) (cond (k == 2) (bottom n - 1) (top n))

rank_most : (c : ℕ) (ws : List ℕ) → rank c ws ≤ 3
rank_most c [] = omega arith
rank_most c (w ∷ ws) = grind (arith, nat_tests)

ranks_apart : (n k m : ℕ) → n < 62 → k < m → m ≤ 3 → highest n k < lowest n m
ranks_apart n k m few less most = grind (arith, nat_tests)

rank_within : (n k : ℕ) → n < 62 → (2 * n ≤ lowest n k) × (highest n k ≤ top n)
rank_within n k few = (grind (arith, nat_tests), grind (arith, nat_tests))

begins : (c n : ℕ) (ws : List ℕ) → n < 62 → Begins (runs_after c n ws) (lowest n (rank c ws)) (highest n (rank c ws))
begins c n [] few = record { head = 2 * n; tail = []; is = refl; from = omega arith; to = omega arith }
begins c n (w ∷ ws) few = elim (kind_of w c) [
  | inl lower ↦ record { head = 2 * n + 1; tail = other_bytes w ++ runs_after c 0 ws; is = run_below c n w ws lower; from = grind (arith, nat_tests); to = grind (arith, nat_tests) }
  | inr (inl same) ↦ elim (cases_lt n 61) [
    | inl more ↦
        let b = begins c (n + 1) ws (omega arith) in let from = b.from in let to = b.to in let next = top-next n more in let within = rank_within (n + 1) (rank c ws) (omega arith) in
        let low : 2 * n + 2 ≤ b.head = omega (arith, within.0) in let high : b.head ≤ bottom n - 1 = omega (arith, within.1) in
        record { head = b.head; tail = b.tail; is = run_common c n w ws same more ∙ b.is; from = grind (arith, nat_tests, low); to = grind (arith, nat_tests, high) }
    | inr last ↦ let full = bottom-full n few in record { head = 124; tail = runs_after c 0 ws; is = run_full c n w ws same (omega arith); from = grind (arith, nat_tests); to = grind (arith, nat_tests) }
  ]
  | inr (inr higher) ↦
      let b = above_begins c n w (runs_after c 0 ws) few higher in let from = b.from in let to = b.to in
      record { head = b.head; tail = b.tail; is = run_above c n w ws higher ∙ b.is; from = grind (arith, nat_tests, from); to = grind (arith, nat_tests, to) }
]

-- ---- two levels

-- one of a lower rank comes first, and so do its weights
runs_less : (c n : ℕ) (xs ys r s : List ℕ) → n < 62 → rank c xs < rank c ys → key_order (runs_after c n xs ++ r) (runs_after c n ys ++ s) ≡ Less
runs_less c n xs ys r s few less = heads_less _ _ r s _ _ _ _ (begins c n xs few) (begins c n ys few) (ranks_apart n (rank c xs) (rank c ys) few less (rank_most c ys))

weights_less : (c : ℕ) (xs ys : List ℕ) → rank c xs < rank c ys → key_order xs ys ≡ Less
weights_less c [] [] less = absurd (omega arith)
weights_less c [] (y ∷ ys) less = refl
weights_less c (x ∷ xs) [] less = absurd (omega arith)
weights_less c (x ∷ xs) (y ∷ ys) less = ap (λ o. ordering_then o (key_order xs ys)) (is_less x y (grind (arith, nat_tests, less)))

-- so those of one rank are left
by_rank : (c n : ℕ) (xs ys r s : List ℕ) → n < 62 → (rank c xs ≡ rank c ys → key_order (runs_after c n xs ++ r) (runs_after c n ys ++ s) ≡ ordering_then (key_order xs ys) (key_order r s))
    → key_order (runs_after c n xs ++ r) (runs_after c n ys ++ s) ≡ ordering_then (key_order xs ys) (key_order r s)
by_rank c n xs ys r s few one = elim (kind_of (rank c xs) (rank c ys)) [
  | inl less ↦ runs_less c n xs ys r s few less ∙ sym (ap (λ o. ordering_then o (key_order r s)) (weights_less c xs ys less))
  | inr (inl same) ↦ one same
  | inr (inr more) ↦ flipped (runs_after c n ys ++ s) (runs_after c n xs ++ r) (runs_less c n ys xs s r few more) ∙ sym (ap (λ o. ordering_then o (key_order r s)) (flipped ys xs (weights_less c ys xs more)))
]

-- two weights that end one run, by the law of their bytes, and the rest of their levels
ends_run : (f g : List ℕ) (x y : ℕ) (xs ys a b r s : List ℕ) → key_order (f ++ (a ++ r)) (g ++ (b ++ s)) ≡ ordering_then (nat_cmp x y) (key_order (a ++ r) (b ++ s))
    → key_order (a ++ r) (b ++ s) ≡ ordering_then (key_order xs ys) (key_order r s) → key_order ((f ++ a) ++ r) ((g ++ b) ++ s) ≡ ordering_then (key_order (x ∷ xs) (y ∷ ys)) (key_order r s)
ends_run f g x y xs ys a b r s first rest =
    ap₂ key_order (append_assoc f a r) (append_assoc g b s) ∙ first ∙ ap (ordering_then (nat_cmp x y)) rest ∙ then_assoc (nat_cmp x y) (key_order xs ys) (key_order r s)

-- a level with runs and what follows it: the level decides, else what follows
pub runs_order : (c n : ℕ) (xs ys r s : List ℕ) → n < 62 → AreWeights xs → AreWeights ys
    → key_order (runs_after c n xs ++ r) (runs_after c n ys ++ s) ≡ ordering_then (key_order xs ys) (key_order r s)
runs_order c n [] [] r s few p q = ap (λ o. ordering_then o (key_order r s)) (is_equal (2 * n) (2 * n) refl)
runs_order c n [] (y ∷ ys) r s few p q = by_rank c n [] (y ∷ ys) r s few (λ e. absurd (grind (arith, nat_tests, e)))
runs_order c n (x ∷ xs) [] r s few p q = by_rank c n (x ∷ xs) [] r s few (λ e. absurd (grind (arith, nat_tests, e)))
runs_order c n (x ∷ xs) (y ∷ ys) r s few p q =
    let a : List ℕ = runs_after c 0 xs in let b : List ℕ = runs_after c 0 ys in
    let rest : key_order (a ++ r) (b ++ s) ≡ ordering_then (key_order xs ys) (key_order r s) = runs_order c 0 xs ys r s (omega arith) p.1 q.1 in
    by_rank c n (x ∷ xs) (y ∷ ys) r s few (λ e. elim (kind_of x c) [
      | inl lower ↦
          let under : y < c = grind (arith, nat_tests, e) in
          ap₂ (λ u v. key_order (u ++ r) (v ++ s)) (run_below c n x xs lower) (run_below c n y ys under)
          ∙ ends_run (below_bytes n x) (below_bytes n y) x y xs ys a b r s (below_first n x y (a ++ r) (b ++ s) p.0.1 q.0.1) rest
      | inr (inl same) ↦
          let at : y ≡ c = grind (arith, nat_tests, e) in let equal = sym (lists_same x y xs ys (key_order r s) (same ∙ sym at)) in
          elim (cases_lt n 61) [
            | inl more ↦ ap₂ (λ u v. key_order (u ++ r) (v ++ s)) (run_common c n x xs same more) (run_common c n y ys at more) ∙ runs_order c (n + 1) xs ys r s (omega arith) p.1 q.1 ∙ equal
            | inr last ↦
                ap₂ (λ u v. key_order (u ++ r) (v ++ s)) (run_full c n x xs same (omega arith)) (run_full c n y ys at (omega arith))
                ∙ ap (λ i. ordering_then i (key_order (a ++ r) (b ++ s))) (is_equal 124 124 refl) ∙ rest ∙ equal
          ]
      | inr (inr higher) ↦
          let over : c < y = grind (arith, nat_tests, e) in
          ap₂ (λ u v. key_order (u ++ r) (v ++ s)) (run_above c n x xs higher) (run_above c n y ys over)
          ∙ ends_run (above_bytes c n x) (above_bytes c n y) x y xs ys a b r s (above_first c n x y (a ++ r) (b ++ s) few higher over p.0.1 q.0.1) rest
    ])
