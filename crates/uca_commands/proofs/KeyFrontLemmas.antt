-- The fronts of keys: keys whose fronts differ are in the order of these.
use Rattle.std.proofs.Common.{◌≡◌, inl, inr, ℕ, zero, suc, ◌+◌, ◌-◌, ◌*◌, ◌^◌, ◌<◌, ◌≤◌, List, [], ◌∷◌, drop, get_or, refl, sym, ap, ◌∙◌, arith}
use Rattle.std.proofs.lemmas.Bool.{cases_lt}
use Rattle.std.proofs.lemmas.List.{get_or-drop}
use Rattle.std.proofs.Math.Nat.{pow-le-pow_right}
use Rattle.std.specs.declared.cmp.Ordering.TheVariants.{Less, Equal}
use Rattle.std.specs.Cmp.{nat_cmp_is}
use Rattle.uca_model.specs.SortKey.{key_order}
use Rattle.uca_commands.specs.KeyFronts.{front, HaveSameFront, IsFront}

-- the first n bytes of a key are bytes
abbrev AreBytesTo : ℕ → List ℕ → Type 0
AreBytesTo n key = (i : ℕ) → i < n → get_or key i 0 < 256

-- ---- a front that grows

pub front-none : (key : List ℕ) → front 0 key ≡ 0
unfolding front
front-none key = refl

front-more : (n : ℕ) (key : List ℕ) → front (suc n) key ≡ front n key * 256 + get_or key n 0
unfolding front
front-more n key = refl

pub front-next : (n : ℕ) (key : List ℕ) → front (n + 1) key ≡ front n key * 256 + get_or key n 0
front-next n key =
    let next : n + 1 ≡ suc n = omega arith in
    ap (λ m. front m key) next ∙ front-more n key

front-below : (n : ℕ) (key : List ℕ) → AreBytesTo n key → front n key < 256 ^ n
front-below zero key bytes = omega (arith, front-none key)
front-below (suc n) key bytes =
    omega (arith, front-more n key, front-below n key (λ i low. bytes i (omega arith)), bytes n (omega arith))

-- one byte more fits in 64 bits
pub front-room : (n : ℕ) (key : List ℕ) → n < 8 → AreBytesTo n key → front n key * 256 + 255 < 2 ^ 64
front-room n key few bytes =
    let most : 256 ^ n ≤ 256 ^ 7 = pow-le-pow_right {n = 256} (omega arith) {i = n} {j = 7} (omega arith) in
    omega (arith, most, front-below n key bytes)

-- ---- keys by their fronts

-- the same bytes after the same bytes
HaveSameFront-more : (d n : ℕ) (a b : List ℕ) → HaveSameFront d a b → HaveSameFront n (drop d a) (drop d b) → HaveSameFront (d + n) a b
HaveSameFront-more d n a b same later i low = elim (cases_lt i d) [
  | inl less ↦ same i less
  | inr past ↦
      let place : d + (i - d) ≡ i = omega arith in
      ap (λ k. get_or a k 0) (sym place) ∙ sym (get_or-drop d a (i - d) 0) ∙ later (i - d) (omega arith) ∙ get_or-drop d b (i - d) 0 ∙ ap (λ k. get_or b k 0) place
]

same_front : (n : ℕ) (a b : List ℕ) → AreBytesTo n a → AreBytesTo n b → front n a ≡ front n b → HaveSameFront n a b
same_front zero a b first second same i low = absurd (omega arith)
same_front (suc n) a b first second same i low =
    let here : get_or a n 0 < 256 = first n (omega arith) in
    let there : get_or b n 0 < 256 = second n (omega arith) in
    let before : front n a ≡ front n b = omega (arith, front-more n a, front-more n b, here, there, same) in
    let last : get_or a n 0 ≡ get_or b n 0 = omega (arith, front-more n a, front-more n b, here, there, same) in
    elim (cases_lt i n) [
      | inl less ↦ same_front n a b (λ k less. first k (omega arith)) (λ k less. second k (omega arith)) before i less
      | inr most ↦ let is : i ≡ n = omega arith in rw is last
    ]

-- keys that have the same bytes, and then the same front
pub HaveSameFront-front : (d n : ℕ) (a b : List ℕ) (x y : ℕ) → HaveSameFront d a b → IsFront n (drop d a) x → IsFront n (drop d b) y → x ≡ y → HaveSameFront (d + n) a b
HaveSameFront-front d n a b x y same first second is =
    HaveSameFront-more d n a b same (same_front n (drop d a) (drop d b) first.bytes second.bytes (sym first.value ∙ is ∙ second.value))

-- keys that differ first at a place
less_at : (n : ℕ) (a b : List ℕ) → HaveSameFront n a b → get_or a n 0 < get_or b n 0 → key_order a b ≡ Less
less_at n a [] same less = absurd (omega arith)
less_at n [] (y ∷ ys) same less = refl
less_at zero (x ∷ xs) (y ∷ ys) same less = rw (sym (nat_cmp_is x y Less less)) refl
less_at (suc n) (x ∷ xs) (y ∷ ys) same less =
    rw (sym (nat_cmp_is x y Equal (same 0 (omega arith)))) (less_at n xs ys (λ i low. same (suc i) (omega arith)) less)

front_less : (d n : ℕ) (a b : List ℕ) → HaveSameFront d a b → AreBytesTo n (drop d a) → AreBytesTo n (drop d b) → front n (drop d a) < front n (drop d b) → key_order a b ≡ Less
front_less d zero a b same first second less = absurd (omega (arith, front-none (drop d a), front-none (drop d b)))
front_less d (suc n) a b same first second less =
    let of_a : AreBytesTo n (drop d a) = λ i low. first i (omega arith) in
    let of_b : AreBytesTo n (drop d b) = λ i low. second i (omega arith) in
    let more : front n (drop d b) ≤ front n (drop d a) → front n (drop d a) ≡ front n (drop d b) = λ most. omega (arith, front-more n (drop d a), front-more n (drop d b), first n (omega arith), second n (omega arith)) in
    elim (cases_lt (front n (drop d a)) (front n (drop d b))) [
      | inl lower ↦ front_less d n a b same of_a of_b lower
      | inr most ↦
          less_at (d + n) a b (HaveSameFront-more d n a b same (same_front n (drop d a) (drop d b) of_a of_b (more most)))
          (omega (arith, front-more n (drop d a), front-more n (drop d b), more most, get_or-drop d a n 0, get_or-drop d b n 0))
    ]

-- the key whose front is less, after the same bytes, is less
pub IsFront-less : (d n : ℕ) (a b : List ℕ) (x y : ℕ) → HaveSameFront d a b → IsFront n (drop d a) x → IsFront n (drop d b) y → x < y → key_order a b ≡ Less
IsFront-less d n a b x y same first second less = front_less d n a b same first.bytes second.bytes (omega (arith, first.value, second.value))
