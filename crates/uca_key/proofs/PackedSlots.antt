-- Slots are in the order of the weights, and two weights of one slot are neither common nor have two high bytes.
use Rattle.uca_key.proofs.Common.{◌≡◌, ℕ, zero, suc, ◌+◌, ◌/◌, ◌≤◌, ◌<◌, Bool, true, false, cond, refl, sym, ap, subst, ◌∙◌, arith, inl, inr, cases_lt, eqb-false, or_parts, PrimaryCode, begins_slot, is_common, common_steps}
use Rattle.uca_key.specs.PrimaryCode.{slot}

pub slot-zero : (k : PrimaryCode) → slot k 0 ≡ 0
unfolding slot
slot-zero k = refl

pub slot-suc : (k : PrimaryCode) (w : ℕ) → slot k (suc w) ≡ slot k w + cond (begins_slot k w) 1 0
unfolding slot
slot-suc k w = refl

pub slot-next : (k : PrimaryCode) (w : ℕ) → slot k (w + 1) ≡ slot k w + cond (begins_slot k w) 1 0
slot-next k w = (let one : w + 1 ≡ suc w = omega arith in ap (slot k) one) ∙ slot-suc k w

pub slot-grows : (k : PrimaryCode) (x y : ℕ) → x ≤ y → slot k x ≤ slot k y
slot-grows k x zero h = let same : 0 ≡ x = omega arith in subst (λ z. slot k z ≤ slot k 0) same (omega arith)
slot-grows k x (suc y) h = elim (cases_lt x (suc y)) [
  | inl before ↦ let grown = slot-grows k x y (omega arith) in let e = slot-suc k y in omega arith
  | inr after ↦ let same : suc y ≡ x = omega arith in subst (λ z. slot k z ≤ slot k (suc y)) same (omega arith)
]

-- a weight with a lower slot is lower
pub slot-lower : (k : PrimaryCode) (x y : ℕ) → slot k x < slot k y → x < y
slot-lower k x y h = elim (cases_lt x y) [ inl lower ↦ lower | inr not_lower ↦ let grown = slot-grows k y x not_lower in absurd (omega arith) ]

no-step : (b : Bool) (m n : ℕ) → m ≤ n → n + cond b 1 0 ≡ m → (b ≡ false) × (n ≡ m)
no-step true m n h e = absurd (omega arith)
no-step false m n h e = (refl, omega arith)

-- two weights of one slot
pub record InOneSlot (k : PrimaryCode) (x y : ℕ) : Type 0 where
  pub page : x / 256 ≡ y / 256
  pub first : is_common k x ≡ false
  pub second : is_common k y ≡ false

-- neighbours
neighbours : (k : PrimaryCode) (y : ℕ) → begins_slot k y ≡ false → InOneSlot k y (suc y)
neighbours k y h = grind (arith, common_steps, or_parts, eqb-false)

pub one-slot : (k : PrimaryCode) (x y : ℕ) → x < y → slot k x ≡ slot k y → InOneSlot k x y
one-slot k x zero h e = absurd (omega arith)
one-slot k x (suc y) h e =
    let grown = slot-grows k x y (omega arith) in
    let still = no-step (begins_slot k y) (slot k x) (slot k y) grown (sym (slot-suc k y) ∙ sym e) in
    let last = neighbours k y still.0 in
    elim (cases_lt x y) [
      | inl before ↦ let rest = one-slot k x y before (sym still.1) in record { page = rest.page ∙ last.page; first = rest.first; second = last.second }
      | inr at ↦ let same : y ≡ x = omega arith in subst (λ z. InOneSlot k z (suc y)) same last
    ]
