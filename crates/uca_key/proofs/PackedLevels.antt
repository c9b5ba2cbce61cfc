-- A level of packed keys under a code of primary weights that is monotone and prefix-free.
use Rattle.uca_key.proofs.Common.{arith, ◌≡◌, ℕ, ◌≤◌, ◌<◌, ◌^◌, List, [], ◌∷◌, ◌++◌, refl, sym, ap, ap₂, subst, ◌∙◌, inl, inr, append_assoc, Less, Greater, nat_cmp, ordering_then, AreWeights, key_order, then_assoc, CodeState, PrimaryCode, primary_bytes, primary_front, primary_level, state_after, common_steps}
use Rattle.uca_key.proofs.KeyOrder.{is_equal, is_greater, is_less, kind_of}

-- the bytes of a weight begin with a byte that is not 0
pub record IsSome (bytes : List ℕ) : Type 0 where
  pub head : ℕ
  pub tail : List ℕ
  pub is : bytes ≡ head ∷ tail
  pub from : 1 ≤ head

-- a code whose byte order is that of the weights, whatever follows, and that has no empty codes and none that begins with 0
pub record IsCode (k : PrimaryCode) : Type 0 where
  pub first : (p : CodeState) (x y : ℕ) (a b : List ℕ) → x < 2 ^ 16 → y < 2 ^ 16 → key_order (primary_bytes k p x ++ a) (primary_bytes k p y ++ b) ≡ ordering_then (nat_cmp x y) (key_order a b)
  pub some : (p : CodeState) (x : ℕ) → x < 2 ^ 16 → IsSome (primary_bytes k p x)

-- the end of a level and a weight
pub end_less : (a b bytes : List ℕ) → IsSome bytes → key_order (0 ∷ a) (bytes ++ b) ≡ Less
end_less a b bytes s = ap (λ l. key_order (0 ∷ a) (l ++ b)) s.is ∙ ap (λ o. ordering_then o (key_order a (s.tail ++ b))) (is_less 0 s.head s.from)

end_greater : (a b bytes : List ℕ) → IsSome bytes → key_order (bytes ++ b) (0 ∷ a) ≡ Greater
end_greater a b bytes s = ap (λ l. key_order (l ++ b) (0 ∷ a)) s.is ∙ ap (λ o. ordering_then o (key_order (s.tail ++ b) a)) (is_greater s.head 0 s.from)

-- a level and what follows it: the level decides, else what follows
pub primary_order : (k : PrimaryCode) → IsCode k → (p : CodeState) (xs ys r s : List ℕ) → AreWeights xs → AreWeights ys
    → key_order (primary_level k p xs ++ r) (primary_level k p ys ++ s) ≡ ordering_then (key_order xs ys) (key_order r s)
primary_order k is p [] [] r s h g = ap (λ o. ordering_then o (key_order r s)) (is_equal 0 0 refl)
primary_order k is p [] (y ∷ ys) r s h g = grind (arith, common_steps, append_assoc, end_less)
primary_order k is p (x ∷ xs) [] r s h g = grind (arith, common_steps, append_assoc, end_greater)
primary_order k is p (x ∷ xs) (y ∷ ys) r s h g =
    let a : List ℕ = primary_level k (state_after k p x) xs ++ r in
    let b : List ℕ = primary_level k (state_after k p y) ys ++ s in
    let o = key_order r s in
    ap₂ key_order (append_assoc (primary_bytes k p x) (primary_level k (state_after k p x) xs) r) (append_assoc (primary_bytes k p y) (primary_level k (state_after k p y) ys) s)
    ∙ is.first p x y a b h.0.1 g.0.1
    ∙ elim (kind_of x y) [
      | inl below ↦ ap (λ c. ordering_then c (key_order a b)) (is_less x y below) ∙ sym (ap (λ c. ordering_then (ordering_then c (key_order xs ys)) o) (is_less x y below))
      | inr (inl same) ↦
          ap (ordering_then (nat_cmp x y)) (subst (λ z. key_order a (primary_level k (state_after k p z) ys ++ s) ≡ ordering_then (key_order xs ys) o) same (primary_order k is (state_after k p x) xs ys r s h.1 g.1))
          ∙ then_assoc (nat_cmp x y) (key_order xs ys) o
      | inr (inr above) ↦ ap (λ c. ordering_then c (key_order a b)) (is_greater x y above) ∙ sym (ap (λ c. ordering_then (ordering_then c (key_order xs ys)) o) (is_greater x y above))
    ]

-- a level is the bytes of its weights, and the byte that ends it
pub level-front : (k : PrimaryCode) (p : CodeState) (ws : List ℕ) → primary_level k p ws ≡ primary_front k p ws ++ 0 ∷ []
level-front k p [] = refl
level-front k p (w ∷ ws) = grind (arith, common_steps, append_assoc, level-front k (state_after k p w) ws)
