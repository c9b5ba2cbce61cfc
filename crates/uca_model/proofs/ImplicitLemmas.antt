-- The offset of a code point in its range has fifteen bits.
use Rattle.std.proofs.Common.{◌≡◌, ℕ, ◌-◌, ◌≤◌, ◌<◌, min, Bool, true, ◌==◌, List, [], ◌∷◌, find, Some, refl, sym, ap, subst, ◌∙◌, arith, inl, inr, eqb-true}
use Rattle.std.proofs.lemmas.Bool.{cases_Bool}
use Rattle.std.proofs.lemmas.Bool.Decides.{nat_tests}
use Rattle.std.specs.List.{AllByRecursion}
use Rattle.uca_weights.specs.declared.range.Range.{Range}
use Rattle.uca_model.specs.Table.{AreRanges}
use Rattle.uca_model.specs.ImplicitWeights.{is_between, lowest_first, range_of}

pub found : (P : Range → Type 0) (test : Range → Bool) (rs : List Range) (r : Range) → AllByRecursion P rs → find test rs ≡ Some r → P r × (test r ≡ true)
found P test [] r all e = cc
found P test (s ∷ rs) r all e = elim (cases_Bool (test s)) [
  | inl holds ↦ let same : s ≡ r = (let at : Some s ≡ Some r = sym (rw holds refl) ∙ e in cc) in (subst P same all.0, ap test (sym same) ∙ holds)
  | inr fails ↦ found P test rs r all.1 (sym (rw fails refl) ∙ e)
]

pub weaker : (P Q : Range → Type 0) (rs : List Range) → ((s : Range) → P s → Q s) → AllByRecursion P rs → AllByRecursion Q rs
weaker P Q [] f all = tt
weaker P Q (s ∷ rs) f all = (f s all.0, weaker P Q rs f all.1)

pub lowest_first-le : (rs : List Range) (base low : ℕ) → lowest_first rs base low ≤ low
lowest_first-le [] base low = omega arith
lowest_first-le (s ∷ rs) base low = elim (cases_Bool (s.base == base)) [
  | inl holds ↦ rw holds (let h : lowest_first rs base (min low s.first) ≤ min low s.first = lowest_first-le rs base (min low s.first) in omega arith)
  | inr fails ↦ rw fails (lowest_first-le rs base low)
]

pub lowest_first-within : (rs : List Range) (base low c : ℕ) → c - low < 0x8000 → AllByRecursion (λ s. s.base ≡ base → c - s.first < 0x8000) rs → c - lowest_first rs base low < 0x8000
lowest_first-within [] base low c h all = h
lowest_first-within (s ∷ rs) base low c h all = elim (cases_Bool (s.base == base)) [
  | inl holds ↦ rw holds (let g : c - s.first < 0x8000 = all.0 (eqb-true _ _ holds) in lowest_first-within rs base (min low s.first) c (omega arith) all.1)
  | inr fails ↦ rw fails (lowest_first-within rs base low c h all.1)
]

inside : (c : ℕ) (r : Range) → is_between r.first r.last c ≡ true → (r.first ≤ c) × (c ≤ r.last)
inside c r h = grind (arith, nat_tests)

pub lowest_first_below : (rs : List Range) (c : ℕ) (r : Range) → AreRanges rs → range_of rs c ≡ Some r → lowest_first rs r.base r.first ≤ c
lowest_first_below rs c r ranges e =
    let at = found (λ s. AllByRecursion (λ t. t.base ≡ s.base → s.last - t.first < 0x8000) rs) (λ s. is_between s.first s.last c) rs r ranges.spans e in
    let low : lowest_first rs r.base r.first ≤ r.first = lowest_first-le rs r.base r.first in
    let above : r.first ≤ c = (inside c r at.1).0 in
    omega arith

pub offset_below : (rs : List Range) (c : ℕ) (r : Range) → AreRanges rs → range_of rs c ≡ Some r → c - lowest_first rs r.base r.first < 0x8000
offset_below rs c r ranges e =
    let at = found (λ s. AllByRecursion (λ t. t.base ≡ s.base → s.last - t.first < 0x8000) rs) (λ s. is_between s.first s.last c) rs r ranges.spans e in
    let own = found (λ t. t.base ≡ r.base → r.last - t.first < 0x8000) (λ s. is_between s.first s.last c) rs r at.0 e in
    let span : r.last - r.first < 0x8000 = own.0 refl in
    let below : c ≤ r.last = (inside c r at.1).1 in
    lowest_first-within rs r.base r.first c (omega arith) (weaker (λ t. t.base ≡ r.base → r.last - t.first < 0x8000) (λ t. t.base ≡ r.base → c - t.first < 0x8000) rs (λ t f b. let g : r.last - t.first < 0x8000 = f b in omega arith) at.0)
