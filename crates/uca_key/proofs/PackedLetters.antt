-- The code of primary weights is monotone and prefix-free.
use Rattle.uca_key.proofs.Common.{◌⊎◌, ◌≡◌, ℕ, ◌+◌, ◌-◌, ◌/◌, ◌%◌, ◌≤◌, ◌<◌, Bool, true, false, cond, ◌==◌, ◌||◌, List, [], ◌∷◌, ◌++◌, refl, sym, ap, ap₂, subst, ◌∙◌, arith, inl, inr, ne_eqb, cases_Bool, cases_lt, cond-true, cond-false, lt-ltb, le-ltb, nat_tests, sum_by-cons, Less, ordering_then, list_any, sum_by, key_order, weight_bytes, weight_first, CodeState, PrimaryCode, after_lead, after_slot, has_page, lead, letter_bytes, page_of, past, primary_bytes, second_bytes, slot, common_steps}
use Rattle.uca_key.proofs.KeyOrder.{firsts_same, flipped, is_equal, is_greater, is_less, kind_of}
use Rattle.uca_key.proofs.PackedLevels.{IsCode, IsSome}
use Rattle.uca_key.proofs.PackedSlots.{one-slot, slot-grows, slot-lower}

-- ---- byte strings

-- the first bytes decide
firsts_less : (h g : ℕ) (s t : List ℕ) → h < g → key_order (h ∷ s) (g ∷ t) ≡ Less
firsts_less h g s t below = ap (λ o. ordering_then o (key_order s t)) (is_less h g below)

-- the first bytes are in order, and where they are the same the others decide
firsts_or : (h g : ℕ) (s t : List ℕ) → h ≤ g → (h ≡ g → key_order s t ≡ Less) → key_order (h ∷ s) (g ∷ t) ≡ Less
firsts_or h g s t within others = grind (arith, common_steps, kind_of, firsts_less, firsts_same)

same_front : (front a b : List ℕ) → key_order (front ++ a) (front ++ b) ≡ key_order a b
same_front [] a b = refl
same_front (x ∷ front) a b = firsts_same x x (front ++ a) (front ++ b) refl ∙ same_front front a b

-- ---- leads

page-grows : (x y : ℕ) → x ≤ y → page_of x ≤ page_of y
page-grows x y h = grind (arith, nat_tests)

past-grows : (x y s : ℕ) → x ≤ y → past x s ≤ past y s
past-grows x y s h = grind (arith, nat_tests)

-- a weight that passes itself passes more than a lower one
past-apart : (x y s : ℕ) → x < y → past x s ≡ past y s → ((s == x) ≡ false) × ((s == y) ≡ false)
past-apart x y s h e = (ne_eqb s x (λ f. absurd (let g : past x s ≡ past y s = e in grind (arith, nat_tests))), ne_eqb s y (λ f. absurd (let g : past x s ≡ past y s = e in grind (arith, nat_tests))))

sums-grow : (x y : ℕ) (l : List ℕ) → x ≤ y → sum_by (past x) l ≤ sum_by (past y) l
sums-grow x y [] h = omega arith
sums-grow x y (s ∷ l) h = grind (arith, common_steps, sum_by-cons, past-grows, sums-grow x y l h)

pub lead-grows : (k : PrimaryCode) (x y : ℕ) → x ≤ y → lead k x ≤ lead k y
lead-grows k x y h = let pages = page-grows x y h in let sums = sums-grow x y k.singles h in omega arith

-- neither of two weights is in a list that raises them alike
sums-apart : (x y : ℕ) (l : List ℕ) → x < y → sum_by (past x) l ≡ sum_by (past y) l → (list_any (λ s. s == x) l ≡ false) × (list_any (λ s. s == y) l ≡ false)
sums-apart x y [] h e = (refl, refl)
sums-apart x y (s ∷ l) h e =
    let one = sum_by-cons (past x) s l in let other = sum_by-cons (past y) s l in
    let here = past-grows x y s (omega arith) in let later = sums-grow x y l (omega arith) in
    let same : past x s ≡ past y s = omega arith in
    let rest = sums-apart x y l h (omega arith) in
    let apart = past-apart x y s h same in
    (ap (λ b. b || list_any (λ s. s == x) l) apart.0 ∙ rest.0, ap (λ b. b || list_any (λ s. s == y) l) apart.1 ∙ rest.1)

-- two weights of one page
page-same : (x y : ℕ) → x < y → y < 65536 → page_of x ≡ page_of y → has_page x ≡ has_page y
page-same x y h within e = grind (arith, nat_tests)

page-bytes : (x y : ℕ) → x < y → y < 65536 → page_of x ≡ page_of y → has_page x ≡ true → x / 256 ≡ y / 256
page-bytes x y h within e paged = grind (arith, nat_tests)

-- two weights with one lead
after_lead-less : (k : PrimaryCode) (x y : ℕ) (a b : List ℕ) → x < y → y < 65536 → lead k x ≡ lead k y → key_order (after_lead k x ++ a) (after_lead k y ++ b) ≡ Less
after_lead-less k x y a b h within e =
    let pages = page-grows x y (omega arith) in let sums = sums-grow x y k.singles (omega arith) in
    let page : page_of x ≡ page_of y = omega arith in
    let apart = sums-apart x y k.singles h (omega arith) in
    let first : after_lead k x ≡ cond (has_page x) ((x % 256) ∷ []) (weight_bytes x) = cond-false _ _ _ apart.0 in
    let second : after_lead k y ≡ cond (has_page y) ((y % 256) ∷ []) (weight_bytes y) = cond-false _ _ _ apart.1 in
    elim (cases_Bool (has_page x)) [
      | inl paged ↦
          let high : x / 256 ≡ y / 256 = page-bytes x y h within page paged in
          ap₂ (λ u v. key_order (u ++ a) (v ++ b)) (first ∙ cond-true _ _ _ paged) (second ∙ cond-true _ _ _ (sym (page-same x y h within page) ∙ paged))
          ∙ firsts_less (x % 256) (y % 256) a b (omega arith)
      | inr wide ↦
          ap₂ (λ u v. key_order (u ++ a) (v ++ b)) (first ∙ cond-false _ _ _ wide) (second ∙ cond-false _ _ _ (sym (page-same x y h within page) ∙ wide))
          ∙ weight_first x y a b (omega arith) within ∙ ap (λ o. ordering_then o (key_order a b)) (is_less x y h)
    ]

-- two weights of one slot
after_slot-less : (k : PrimaryCode) (x y : ℕ) (a b : List ℕ) → x < y → slot k x ≡ slot k y → key_order (after_slot k x ++ a) (after_slot k y ++ b) ≡ Less
after_slot-less k x y a b h e = grind (arith, common_steps, one-slot, cond-false, firsts_less)

-- ---- letters

-- where the slot of a weight lies: below a window, in it, or above it
abbrev pub Places : PrimaryCode → ℕ → ℕ → Type 0
Places k base w = (slot k w < slot k base) ⊎ (((slot k base ≤ slot k w) × (slot k w < slot k base + 119)) ⊎ (slot k base + 119 ≤ slot k w))

pub place_of : (k : PrimaryCode) (base w : ℕ) → Places k base w
place_of k base w = grind (arith, common_steps, cases_lt)

pub at_below : (k : PrimaryCode) (base w : ℕ) → slot k w < slot k base → letter_bytes k base w ≡ lead k w ∷ after_lead k w
at_below k base w h = grind (arith, nat_tests)

pub at_inside : (k : PrimaryCode) (base w : ℕ) → slot k base ≤ slot k w → slot k w < slot k base + 119 → letter_bytes k base w ≡ (lead k base + 1 + (slot k w - slot k base)) ∷ after_slot k w
at_inside k base w from inside = grind (arith, nat_tests)

pub at_above : (k : PrimaryCode) (base w : ℕ) → slot k base + 119 ≤ slot k w → letter_bytes k base w ≡ (lead k w + 119 + 1) ∷ after_lead k w
at_above k base w h = grind (arith, nat_tests)

letter-less : (k : PrimaryCode) (base x y : ℕ) (a b : List ℕ) → x < y → y < 65536 → key_order (letter_bytes k base x ++ a) (letter_bytes k base y ++ b) ≡ Less
letter-less k base x y a b h within =
    let slots = slot-grows k x y (omega arith) in
    let leads = lead-grows k x y (omega arith) in
    let by : (u v : List ℕ) → letter_bytes k base x ≡ u → letter_bytes k base y ≡ v → key_order (u ++ a) (v ++ b) ≡ Less → key_order (letter_bytes k base x ++ a) (letter_bytes k base y ++ b) ≡ Less =
    λ u v e f less. ap₂ (λ u v. key_order (u ++ a) (v ++ b)) e f ∙ less in
    elim (place_of k base x) [
      | inl x_below ↦ elim (place_of k base y) [
        | inl y_below ↦ by _ _ (at_below k base x x_below) (at_below k base y y_below) (firsts_or (lead k x) (lead k y) (after_lead k x ++ a) (after_lead k y ++ b) leads (after_lead-less k x y a b h within))
        | inr (inl y_inside) ↦
            let under = lead-grows k x base (let lower = slot-lower k x base x_below in omega arith) in
            by _ _ (at_below k base x x_below) (at_inside k base y y_inside.0 y_inside.1) (firsts_less (lead k x) (lead k base + 1 + (slot k y - slot k base)) (after_lead k x ++ a) (after_slot k y ++ b) (omega arith))
        | inr (inr y_above) ↦ by _ _ (at_below k base x x_below) (at_above k base y y_above) (firsts_less (lead k x) (lead k y + 119 + 1) (after_lead k x ++ a) (after_lead k y ++ b) (omega arith))
      ]
      | inr (inl x_inside) ↦ elim (place_of k base y) [
        | inl y_below ↦ absurd (let from = x_inside.0 in omega arith)
        | inr (inl y_inside) ↦
            let from = x_inside.0 in let to = y_inside.0 in
            by _ _ (at_inside k base x x_inside.0 x_inside.1) (at_inside k base y y_inside.0 y_inside.1)
            (firsts_or (lead k base + 1 + (slot k x - slot k base)) (lead k base + 1 + (slot k y - slot k base)) (after_slot k x ++ a) (after_slot k y ++ b) (omega arith) (λ e. after_slot-less k x y a b h (omega arith)))
        | inr (inr y_above) ↦
            let inside = x_inside.1 in
            let over = lead-grows k base y (let lower = slot-lower k base y (omega arith) in omega arith) in
            by _ _ (at_inside k base x x_inside.0 x_inside.1) (at_above k base y y_above) (firsts_less (lead k base + 1 + (slot k x - slot k base)) (lead k y + 119 + 1) (after_slot k x ++ a) (after_lead k y ++ b) (omega arith))
      ]
      | inr (inr x_above) ↦ elim (place_of k base y) [
        | inl y_below ↦ absurd (omega arith)
        | inr (inl y_inside) ↦ absurd (let inside = y_inside.1 in omega arith)
        | inr (inr y_above) ↦ by _ _ (at_above k base x x_above) (at_above k base y y_above) (firsts_or (lead k x + 119 + 1) (lead k y + 119 + 1) (after_lead k x ++ a) (after_lead k y ++ b) (omega arith) (λ e. after_lead-less k x y a b h within (omega arith)))
      ]
    ]

-- ---- the second weight of an implicit pair

second-less : (x y : ℕ) (a b : List ℕ) → x < y → y < 65536 → key_order (second_bytes x ++ a) (second_bytes y ++ b) ≡ Less
second-less x y a b h within = grind (arith, common_steps, cases_lt, cond-true, lt-ltb, firsts_same, weight_first, is_less, cond-false, le-ltb, firsts_less)

second-some : (w : ℕ) → w < 65536 → IsSome (second_bytes w)
second-some w within = grind (arith, common_steps, cases_lt, cond-true, lt-ltb, cond-false, le-ltb)

-- ---- all of it

code-less : (k : PrimaryCode) (p : CodeState) (x y : ℕ) (a b : List ℕ) → x < y → y < 65536 → key_order (primary_bytes k p x ++ a) (primary_bytes k p y ++ b) ≡ Less
code-less k p x y a b h within = by_state p.second
  where
    by_state : (second : Bool) → key_order (cond second (second_bytes x) (letter_bytes k p.base x) ++ a) (cond second (second_bytes y) (letter_bytes k p.base y) ++ b) ≡ Less
    by_state true = second-less x y a b h within
    by_state false = letter-less k p.base x y a b h within

letter-some : (k : PrimaryCode) (base w : ℕ) → IsSome (letter_bytes k base w)
letter-some k base w = elim (place_of k base w) [
  | inl below ↦ record { head = lead k w; tail = after_lead k w; is = at_below k base w below; from = omega arith }
  | inr (inl inside) ↦ record { head = lead k base + 1 + (slot k w - slot k base); tail = after_slot k w; is = at_inside k base w inside.0 inside.1; from = omega arith }
  | inr (inr above) ↦ record { head = lead k w + 119 + 1; tail = after_lead k w; is = at_above k base w above; from = omega arith }
]

-- any code of this form is one
pub is-code : (k : PrimaryCode) → IsCode k
is-code k = record {
  first = λ p x y a b x_within y_within. elim (kind_of x y) [
    | inl below ↦ code-less k p x y a b below y_within ∙ sym (ap (λ o. ordering_then o (key_order a b)) (is_less x y below))
    | inr (inl same) ↦
        subst (λ z. key_order (primary_bytes k p x ++ a) (primary_bytes k p z ++ b) ≡ key_order a b) same (same_front (primary_bytes k p x) a b)
        ∙ sym (ap (λ o. ordering_then o (key_order a b)) (is_equal x y same))
    | inr (inr above) ↦
        flipped (primary_bytes k p y ++ b) (primary_bytes k p x ++ a) (code-less k p y x b a above x_within)
        ∙ sym (ap (λ o. ordering_then o (key_order a b)) (is_greater x y above))
  ];
  some = λ p w within. by_state w p p.second within;
}
  where
    by_state : (w : ℕ) (p : CodeState) (second : Bool) → w < 65536 → IsSome (cond second (second_bytes w) (letter_bytes k p.base w))
    by_state w p true within = second-some w within
    by_state w p false within = letter-some k p.base w
