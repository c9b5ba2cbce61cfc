-- Gaps that are made one after the other are those that are made at once.
use Rattle.std.proofs.Common.{◌≡◌, ℕ, zero, suc, ◌+◌, ◌-◌, ◌≤◌, ◌<◌, min, cond, ◌==◌, nat_lt, nat_le, List, [], ◌∷◌, ◌++◌, length, get_or, insert, refl, sym, ap, ◌∙◌, arith, inl, inr}
use Rattle.std.proofs.lemmas.Bool.{cases_lt, lt-ltb, le-ltb, cond-true, cond-false}
use Rattle.std.proofs.lemmas.Bool.Decides.{nat_tests}
use Rattle.std.specs.List.{AllByRecursion}
use Rattle.uca_model.specs.Gap.{weight_with_gap}
use Rattle.uca_tailor.specs.Shifts.{moved, count_below, moved_at_once, bounds_with, Rise, AreBounds}

-- ## Bounds in rising order

all_from : (x b : ℕ) (bs : List ℕ) → x ≤ b → AllByRecursion (λ c. b ≤ c) bs → AllByRecursion (λ c. x ≤ c) bs
all_from x b [] h all = tt
all_from x b (c ∷ bs) h all = (let g : b ≤ c = all.0 in omega arith, all_from x b bs h all.1)

all_with : (b w : ℕ) (bs : List ℕ) → b ≤ w → AllByRecursion (λ c. b ≤ c) bs → AllByRecursion (λ c. b ≤ c) (bounds_with w bs)
all_with b w [] h all = (h, tt)
all_with b w (c ∷ bs) h all = elim (cases_lt c w) [
  | inl low ↦ let g : b ≤ c = all.0 in rw (lt-ltb c w low) (all.0, all_with b (w - 1) bs (omega arith) all.1)
  | inr high ↦ rw (le-ltb c w high) (h, all)
]

pub Rise-with : (w : ℕ) (bs : List ℕ) → Rise bs → Rise (bounds_with w bs)
Rise-with w [] r = (tt, tt)
Rise-with w (b ∷ bs) r = elim (cases_lt b w) [
  | inl low ↦ rw (lt-ltb b w low) (all_with b (w - 1) bs (omega arith) r.0, Rise-with (w - 1) bs r.1)
  | inr high ↦ rw (le-ltb b w high) ((high, all_from w b bs high r.0), r)
]

all_at : (b k : ℕ) (bs : List ℕ) → AllByRecursion (λ c. b ≤ c) bs → k < length bs → b ≤ get_or bs k 0
all_at b k [] all h = absurd (omega arith)
all_at b zero (c ∷ bs) all h = all.0
all_at b (suc k) (c ∷ bs) all h = all_at b k bs all.1 (omega arith)

pub rise-at : (i j : ℕ) (bs : List ℕ) → Rise bs → i ≤ j → j < length bs → get_or bs i 0 ≤ get_or bs j 0
rise-at i j [] r o h = absurd (omega arith)
rise-at zero zero (b ∷ bs) r o h = omega arith
rise-at zero (suc j) (b ∷ bs) r o h = all_at b j bs r.0 (omega arith)
rise-at (suc i) zero (b ∷ bs) r o h = absurd (omega arith)
rise-at (suc i) (suc j) (b ∷ bs) r o h = rise-at i j bs r.1 (omega arith) (omega arith)

-- ## How many bounds are below a weight

none_below : (x : ℕ) (bs : List ℕ) → AllByRecursion (λ c. x ≤ c) bs → count_below x bs ≡ 0
none_below x [] all = refl
none_below x (b ∷ bs) all = let rest : count_below x bs ≡ 0 = none_below x bs all.1 in rw (le-ltb b x all.0) (omega arith)

-- the count that a search finds
pub count_below-at : (x n : ℕ) (bs : List ℕ) → n ≤ length bs → ((k : ℕ) → k < n → get_or bs k 0 < x) → ((k : ℕ) → n ≤ k → k < length bs → x ≤ get_or bs k 0) → count_below x bs ≡ n
count_below-at x n [] h low high = omega arith
count_below-at x zero (b ∷ bs) h low high =
    let first : x ≤ b = high 0 (omega arith) (omega arith) in
    let rest : count_below x bs ≡ 0 = count_below-at x 0 bs (omega arith) (λ k less. absurd (omega arith)) (λ k from inside. high (suc k) (omega arith) (omega arith)) in
    rw (le-ltb b x first) (omega arith)
count_below-at x (suc n) (b ∷ bs) h low high =
    let first : b < x = low 0 (omega arith) in
    let rest : count_below x bs ≡ n = count_below-at x n bs (omega arith) (λ k less. low (suc k) (omega arith)) (λ k from inside. high (suc k) (omega arith) (omega arith)) in
    rw (lt-ltb b x first) (omega arith)

-- ## One more gap

more_low : (b w x c n : ℕ) → b < w → (x ≤ b → c ≡ 0) → n ≡ c + cond (nat_lt (w - 1) (x + c)) 1 0 → cond (nat_lt b x) 1 0 + n ≡ (cond (nat_lt b x) 1 0 + c) + cond (nat_lt w (x + (cond (nat_lt b x) 1 0 + c))) 1 0
more_low b w x c n h none is = grind (arith, nat_tests)

more_high : (b w x c : ℕ) → w ≤ b → (x ≤ b → c ≡ 0) → cond (nat_lt w x) 1 0 + (cond (nat_lt b x) 1 0 + c) ≡ (cond (nat_lt b x) 1 0 + c) + cond (nat_lt w (x + (cond (nat_lt b x) 1 0 + c))) 1 0
more_high b w x c h none = grind (arith, nat_tests)

only_one : (w x : ℕ) → cond (nat_lt w x) 1 0 + 0 ≡ 0 + cond (nat_lt w (x + 0)) 1 0
only_one w x = grind (arith, nat_tests)

-- a weight has one more bound below it exactly where the gap moves it
pub count_below-with : (x w : ℕ) (bs : List ℕ) → Rise bs → count_below x (bounds_with w bs) ≡ count_below x bs + cond (nat_lt w (x + count_below x bs)) 1 0
count_below-with x w [] r = only_one w x
count_below-with x w (b ∷ bs) r =
    let none : (x ≤ b → count_below x bs ≡ 0) = λ h. none_below x bs (all_from x b bs h r.0) in
    elim (cases_lt b w) [
      | inl low ↦ rw (lt-ltb b w low) (more_low b w x (count_below x bs) (count_below x (bounds_with (w - 1) bs)) low none (count_below-with x (w - 1) bs r.1))
      | inr high ↦ rw (le-ltb b w high) (more_high b w x (count_below x bs) high none)
    ]

once_more : (level w x c n : ℕ) → n ≡ c + cond (nat_lt w (x + c)) 1 0
    → cond (level == 1) (cond (nat_le 0x8000 x) x (min 0x8000 (x + n))) (x + n) ≡ weight_with_gap level w (cond (level == 1) (cond (nat_le 0x8000 x) x (min 0x8000 (x + c))) (x + c))
once_more level w x c n is = grind (arith, nat_tests)

pub moved_at_once-with : (level w x : ℕ) (bs : List ℕ) → Rise bs → moved_at_once level (bounds_with w bs) x ≡ weight_with_gap level w (moved_at_once level bs x)
moved_at_once-with level w x bs r = once_more level w x (count_below x bs) (count_below x (bounds_with w bs)) (count_below-with x w bs r)

pub moved-append : (level : ℕ) (ws vs : List ℕ) (x : ℕ) → moved level (ws ++ vs) x ≡ moved level vs (moved level ws x)
moved-append level [] vs x = refl
moved-append level (w ∷ ws) vs x = moved-append level ws vs (weight_with_gap level w x)

stays : (level x : ℕ) → cond (level == 1) (cond (nat_le 0x8000 x) x (min 0x8000 (x + 0))) (x + 0) ≡ x
stays level x = grind (arith, nat_tests)

pub AreBounds-none : AreBounds [] []
AreBounds-none = record { rise = tt; same = λ level x. stays level x }

pub AreBounds-with : (bounds ws : List ℕ) (w : ℕ) → AreBounds bounds ws → AreBounds (bounds_with w bounds) (ws ++ w ∷ [])
AreBounds-with bounds ws w are = record {
  rise = Rise-with w bounds are.rise;
  same = λ level x. moved_at_once-with level w x bounds are.rise ∙ ap (weight_with_gap level w) (are.same level x) ∙ sym (moved-append level ws (w ∷ []) x);
}

-- the place that a search finds
pub insert-with : (w i : ℕ) (bs : List ℕ) → i ≤ length bs → ((k : ℕ) → k < i → get_or bs k 0 + k < w) → (i < length bs → w ≤ get_or bs i 0 + i) → insert bs i (w - i) ≡ bounds_with w bs
insert-with w zero [] h low high = let e : w - 0 ≡ w = omega arith in ap (λ v. v ∷ []) e
insert-with w (suc i) [] h low high = absurd (omega arith)
insert-with w zero (b ∷ bs) h low high =
    let e : w - 0 ≡ w = omega arith in
    let first : w ≤ b = (let g : w ≤ b + 0 = high (omega arith) in omega arith) in
    ap (λ v. v ∷ b ∷ bs) e ∙ sym (cond-false (nat_lt b w) _ _ (le-ltb b w first))
insert-with w (suc i) (b ∷ bs) h low high =
    let first : b < w = (let g : b + 0 < w = low 0 (omega arith) in omega arith) in
    let e : w - suc i ≡ w - 1 - i = omega arith in
    let rest : insert bs i (w - 1 - i) ≡ bounds_with (w - 1) bs = insert-with (w - 1) i bs (omega arith)
    (λ k less. (let g : get_or bs k 0 + suc k < w = low (suc k) (omega arith) in omega arith))
    (λ inside. (let g : w ≤ get_or bs i 0 + suc i = high (omega arith) in omega arith)) in
    ap (λ v. b ∷ insert bs i v) e ∙ ap (λ xs. b ∷ xs) rest ∙ sym (cond-true (nat_lt b w) _ _ (lt-ltb b w first))

-- ## Sixteen bits

grows_once : (level w x : ℕ) → x ≤ weight_with_gap level w x
grows_once level w x = grind (arith, nat_tests)

pub moved-grows : (level : ℕ) (ws : List ℕ) (x : ℕ) → x ≤ moved level ws x
moved-grows level [] x = omega arith
moved-grows level (w ∷ ws) x =
    let a : x ≤ weight_with_gap level w x = grows_once level w x in
    let b : weight_with_gap level w x ≤ moved level ws (weight_with_gap level w x) = moved-grows level ws (weight_with_gap level w x) in
    omega arith

-- a weight that was cut to sixteen bits is still cut after more gaps
pub moved-cut : (level : ℕ) (ws : List ℕ) (x y : ℕ) → y ≡ min x 65535 → min (moved level ws y) 65535 ≡ min (moved level ws x) 65535
moved-cut level ws x y is = elim (cases_lt 65535 x) [
  | inl large ↦
      let cut : y ≡ 65535 = omega arith in
      let a : y ≤ moved level ws y = moved-grows level ws y in
      let b : x ≤ moved level ws x = moved-grows level ws x in
      omega arith
  | inr small ↦ let same : y ≡ x = omega arith in ap (λ v. min (moved level ws v) 65535) same
]
