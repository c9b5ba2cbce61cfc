-- Lists that are sorted by keys, part by part.
use Rattle.std.proofs.Common.{◌≡◌, ◌⊎◌, inl, inr, ℕ, ◌+◌, ◌-◌, Bool, true, false, not, ◌&&◌, List, [], ◌∷◌, ◌++◌, length, get_or, map, filter, All, IsPermutation, is_lt, refl, sym, ap, ap₂, ◌∙◌, arith}
use Rattle.std.proofs.lemmas.Bool.{cases_Bool, cases_lt}
use Rattle.std.proofs.lemmas.Cmp.{nat_list_cmp_total, tied_itself}
use Rattle.std.proofs.lemmas.List.{get_or_append_left, get_or-append_right, get_or-map, length-append, length-map}
use Rattle.std.proofs.lemmas.List.Elements.{All-cons, All-head, All-nil, All-tail, All-get_or, All-weaker, filter-append}
use Rattle.std.proofs.lemmas.List.Sorted.{All-permutation, IsPermutation-append, IsPermutation-map}
use Rattle.std.proofs.lemmas.Map.Text.{is_eq-slice_cmp}
use Rattle.std.proofs.lemmas.Slice.Eq.{bytes_eq-Decides}
use Rattle.std.specs.Cmp.{IsTotalOrder}
use Rattle.std.specs.declared.cmp.Ordering.{Ordering}
use Rattle.std.specs.declared.cmp.Ordering.TheVariants.{Less, Equal, Greater}
use Rattle.std.specs.List.Sorted.{IsSortedByKey, IsStableBy, IsStableByKey, ties}
use Rattle.std.specs.Ordering.{is_eq, ordering_reverse}
use Rattle.uca_model.specs.SortKey.{key_order}
use Rattle.uca_commands.specs.LineSorting.{SortsByKey}

-- ---- keys that tie

-- neither is less than the other
abbrev pub is_tie : Ordering → Ordering → Bool
is_tie o r = not (is_lt o) && not (is_lt r)

pub is_tie-same : {K : Type 0} {R : K → K → Ordering} → IsTotalOrder R → (a b : K) → a ≡ b → is_tie (R a b) (R b a) ≡ true
is_tie-same {R = R} total a b is = rw (sym is, tied_itself total a) refl

same_order : (o r : Ordering) → r ≡ ordering_reverse o → is_tie o r ≡ true → o ≡ Equal
same_order Less r is tie = cc
same_order Equal r is tie = refl
same_order Greater r is tie = let less : is_lt r ≡ true = ap is_lt is in let none : not (is_lt r) ≡ false = ap not less in cc

tied_keys : (a b : List ℕ) → is_tie (key_order a b) (key_order b a) ≡ true → a ≡ b
tied_keys a b tie = (bytes_eq-Decides a b).0 (sym (is_eq-slice_cmp a b) ∙ ap is_eq (same_order (key_order a b) (key_order b a) (nat_list_cmp_total.antisymm b a) tie))

-- ---- elements that pass a test

filter-map : {X Y : Type 0} (f : X → Y) (p : Y → Bool) (xs : List X) → filter p (map f xs) ≡ map f (filter (λ x. p (f x)) xs)
filter-map f p [] = refl
filter-map {X} {Y} f p (x ∷ xs) = elim (cases_Bool (p (f x))) [
  | inl passes ↦ rw passes (ap (λ l. f x ∷ l) (filter-map f p xs))
  | inr fails ↦ rw fails (filter-map f p xs)
]

-- those that pass p are among those that pass q
filter-refined : {X : Type 0} (p q : X → Bool) (xs : List X) → All (λ x. p x ≡ true → q x ≡ true) xs → filter p (filter q xs) ≡ filter p xs
filter-refined p q [] each = refl
filter-refined {X} p q (x ∷ xs) each =
    let rest : filter p (filter q xs) ≡ filter p xs = filter-refined p q xs (All-tail (λ y. p y ≡ true → q y ≡ true) x xs each) in
    let here : p x ≡ true → q x ≡ true = All-head (λ y. p y ≡ true → q y ≡ true) x xs each in
    elim (cases_Bool (p x)) [
      | inl passes ↦ rw (here passes, passes) (ap (λ l. x ∷ l) rest)
      | inr fails ↦ elim (cases_Bool (q x)) [
        | inl both ↦ rw (both, fails) rest
        | inr none ↦ rw (none, fails) rest
      ]
    ]

filter-none : {X : Type 0} (p : X → Bool) (xs : List X) → All (λ x. p x ≡ false) xs → filter p xs ≡ []
filter-none p [] none = refl
filter-none p (x ∷ xs) none = rw (All-head (λ y. p y ≡ false) x xs none) (filter-none p xs (All-tail (λ y. p y ≡ false) x xs none))

-- an element of which Q is known passes, or none does
some_or_none : {X : Type 0} (p : X → Bool) (Q : X → Type 0) (xs : List X) → All Q xs → ((x : X) × (p x ≡ true) × Q x) ⊎ All (λ x. p x ≡ false) xs
some_or_none p Q [] all = inr (All-nil (λ x. p x ≡ false))
some_or_none {X} p Q (x ∷ xs) all = elim (cases_Bool (p x)) [
  | inl passes ↦ inl (x, passes, All-head Q x xs all)
  | inr fails ↦ elim (some_or_none p Q xs (All-tail Q x xs all)) [
    | inl some ↦ inl some
    | inr none ↦ inr (All-cons (λ y. p y ≡ false) x xs fails none)
  ]
]

-- ---- a sort and what its elements show

-- where elements that show the same key tie, a stable sort keeps the order of what they show
pub stable-map : {X Y : Type 0} (lt : X → X → Bool) (key : Y → List ℕ) (f : X → Y) (xs ys : List X) → All (λ x. All (λ z. key (f x) ≡ key (f z) → ties lt x z ≡ true) xs) xs
    → IsPermutation xs ys → IsStableBy lt xs ys → IsStableByKey key key_order (map f xs) (map f ys)
stable-map {X} lt key f xs ys alike same stable y =
    filter-map f (λ b. is_tie (key_order (key y) (key b)) (key_order (key b) (key y))) ys
    ∙ ap (map f) (elim (some_or_none tied (λ x. All (λ z. key (f x) ≡ key (f z) → ties lt x z ≡ true) xs) xs alike) [
      | inl (z, tie, among) ↦
          let each : All (λ x. tied x ≡ true → ties lt z x ≡ true) xs
          = All-weaker (λ x. key (f z) ≡ key (f x) → ties lt z x ≡ true) (λ x. tied x ≡ true → ties lt z x ≡ true) (λ x alike_x is. alike_x (sym (tied_keys (key y) (key (f z)) tie) ∙ tied_keys (key y) (key (f x)) is)) xs among in
          sym (filter-refined tied (ties lt z) ys (All-permutation (λ x. tied x ≡ true → ties lt z x ≡ true) xs ys same each)) ∙ ap (filter tied) (stable z) ∙ filter-refined tied (ties lt z) xs each
      | inr none ↦ filter-none tied ys (All-permutation (λ x. tied x ≡ false) xs ys same none) ∙ sym (filter-none tied xs none)
    ])
    ∙ sym (filter-map f (λ b. is_tie (key_order (key y) (key b)) (key_order (key b) (key y))) xs)
  where
    tied : X → Bool
    tied x = is_tie (key_order (key y) (key (f x))) (key_order (key (f x)) (key y))

sorted-map : {X Y : Type 0} (key : X → List ℕ) (k : Y → List ℕ) (f : X → Y) (ys : List X) → All (λ x. key x ≡ k (f x)) ys → IsSortedByKey key key_order ys → IsSortedByKey k key_order (map f ys)
sorted-map key k f [] has up i d low more = absurd (omega arith)
sorted-map key k f (y ∷ ys) has up i d low more =
    let count : length (map f (y ∷ ys)) ≡ length (y ∷ ys) = length-map (y ∷ ys) f in
    let here : k (get_or (map f (y ∷ ys)) i d) ≡ key (get_or (y ∷ ys) i y) = ap k (get_or-map f (y ∷ ys) i y d (omega arith)) ∙ sym (has i y (omega arith)) in
    let next : k (get_or (map f (y ∷ ys)) (i + 1) d) ≡ key (get_or (y ∷ ys) (i + 1) y) = ap k (get_or-map f (y ∷ ys) (i + 1) y d (omega arith)) ∙ sym (has (i + 1) y (omega arith)) in
    ap₂ (λ a b. is_lt (key_order a b)) next here ∙ up i y low (omega arith)

-- a sort by keys sorts what the elements show, where that has the same keys
pub SortsByKey-map : {X Y : Type 0} (key : X → List ℕ) (k : Y → List ℕ) (f : X → Y) (xs ys : List X) → All (λ x. key x ≡ k (f x)) xs → SortsByKey key xs ys → SortsByKey k (map f xs) (map f ys)
SortsByKey-map {X} key k f xs ys has sorts = record {
  same = IsPermutation-map f xs ys sorts.same;
  sorted = sorted-map key k f ys (All-permutation (λ x. key x ≡ k (f x)) xs ys sorts.same has) sorts.sorted;
  stable = stable-map (λ a b. is_lt (key_order (key a) (key b))) k f xs ys
      (All-weaker (λ x. key x ≡ k (f x)) (λ x. All (λ z. k (f x) ≡ k (f z) → is_tie (key_order (key x) (key z)) (key_order (key z) (key x)) ≡ true) xs)
      (λ x has_x. All-weaker (λ z. key z ≡ k (f z)) (λ z. k (f x) ≡ k (f z) → is_tie (key_order (key x) (key z)) (key_order (key z) (key x)) ≡ true)
      (λ z has_z is. is_tie-same nat_list_cmp_total (key x) (key z) (has_x ∙ is ∙ sym has_z)) xs has) xs has)
      sorts.same sorts.stable;
}

-- ---- lists of which one follows the other

-- no key in vs is less than that of a
abbrev pub IsBelow : {X : Type 0} → (X → List ℕ) → List X → X → Type 0
IsBelow key vs a = All (λ b. is_lt (key_order (key b) (key a)) ≡ false) vs

sorted-append : {X : Type 0} (key : X → List ℕ) (us vs : List X) → IsSortedByKey key key_order us → IsSortedByKey key key_order vs → All (IsBelow key vs) us → IsSortedByKey key key_order (us ++ vs)
sorted-append key us vs up upper below k d low more =
    let long : length (us ++ vs) ≡ length us + length vs = length-append us vs in
    elim (cases_lt (k + 1) (length us)) [
      | inl both ↦ rw (get_or_append_left us vs d (k + 1) both, get_or_append_left us vs d k (omega arith)) (up k d low both)
      | inr few ↦ rw (get_or-append_right us vs (length us) (k + 1) d refl few) (elim (cases_lt k (length us)) [
        | inl seam ↦ rw (get_or_append_left us vs d k seam) (All-get_or (IsBelow key vs) us k d seam below (k + 1 - length us) d (omega (arith, long)))
        | inr past ↦
            let after : k + 1 - length us ≡ (k - length us) + 1 = omega arith in
            rw (get_or-append_right us vs (length us) k d refl past, after) (upper (k - length us) d (omega arith) (omega (arith, long)))
      ])
    ]

pub SortsByKey-append : {X : Type 0} (key : X → List ℕ) (us vs cs ds : List X) → SortsByKey key us cs → SortsByKey key vs ds → All (IsBelow key vs) us → SortsByKey key (us ++ vs) (cs ++ ds)
SortsByKey-append {X} key us vs cs ds first second below =
    let above : All (IsBelow key ds) us = All-weaker (IsBelow key vs) (IsBelow key ds) (λ a each. All-permutation (λ b. is_lt (key_order (key b) (key a)) ≡ false) vs ds second.same each) us below in
    record {
      same = IsPermutation-append us cs vs ds first.same second.same;
      sorted = sorted-append key cs ds first.sorted second.sorted (All-permutation (IsBelow key ds) us cs first.same above);
      stable = λ x. simp filter-append (ap₂ (λ ls rs. ls ++ rs) (first.stable x) (second.stable x));
    }
