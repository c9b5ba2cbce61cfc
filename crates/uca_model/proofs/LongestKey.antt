-- What the longest key says about the others.
use Rattle.std.proofs.Common.{◌≡◌, ℕ, ◌≤◌, max, true, ◌||◌, eqb, List, [], ◌∷◌, length, fold, refl, sym, ap, ◌∙◌, arith, inl, inr}
use Rattle.std.proofs.lemmas.Bool.{cases_Bool, and_parts}
use Rattle.std.specs.List.{list_any}
use Rattle.std.specs.Ordering.{eq_by_cmp}
use Rattle.std.specs.Cmp.Lexicographic.{pointwise}
use Rattle.std.specs.FinMap.{keys, contains_key-keys}
use Rattle.uca_model.specs.Table.{ElementTable, key_cmp, is_key, longest}
use Rattle.uca_model.proofs.MatchingLemmas.{same_key}

same_length : (a b : List ℕ) → pointwise eqb a b ≡ true → length a ≡ length b
same_length [] [] h = refl
same_length [] (y ∷ b) h = cc
same_length (x ∷ a) [] h = cc
same_length (x ∷ a) (y ∷ b) h = let e : length a ≡ length b = same_length a b (and_parts (eqb x y) (pointwise eqb a b) h).1 in omega arith

fold-le : (n : ℕ) (ks : List (List ℕ)) → n ≤ fold (λ m k. max m (length k)) n ks
fold-le n [] = omega arith
fold-le n (k ∷ ks) = let h : max n (length k) ≤ fold (λ m j. max m (length j)) (max n (length k)) ks = fold-le (max n (length k)) ks in omega arith

fold-covers : (q : List ℕ) (n : ℕ) (ks : List (List ℕ)) → list_any (eq_by_cmp key_cmp q) ks ≡ true → length q ≤ fold (λ m k. max m (length k)) n ks
fold-covers q n [] h = cc
fold-covers q n (k ∷ ks) h =
    elim (cases_Bool (eq_by_cmp key_cmp q k)) [
      | inl here ↦
          let same : length k ≡ length q = same_length k q (sym (same_key k q) ∙ here) in
          let more : max n (length k) ≤ fold (λ m j. max m (length j)) (max n (length k)) ks = fold-le (max n (length k)) ks in
          omega arith
      | inr other ↦ fold-covers q (max n (length k)) ks (sym (ap (λ t. t || list_any (eq_by_cmp key_cmp q) ks) other) ∙ h)
    ]

pub longest-covers : (t : ElementTable) (key : List ℕ) → is_key t key ≡ true → length key ≤ longest t
longest-covers t key h = fold-covers key 1 (keys t.entries) (sym (contains_key-keys t.entries key) ∙ h)

pub longest-some : (t : ElementTable) → 1 ≤ longest t
longest-some t = fold-le 1 (keys t.entries)
