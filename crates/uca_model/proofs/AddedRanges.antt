-- Ranges that can be in one table together may be added one after the other.
use Rattle.std.proofs.Common.{◌≡◌, ℕ, ◌-◌, ◌<◌, max, false, ◌==◌, List, [], ◌∷◌, ◌++◌, refl, sym, ap, ◌∙◌, arith, inl, inr, eqb-true}
use Rattle.std.proofs.lemmas.Bool.{cases_Bool, cond-false, or_from, le-ltb}
use Rattle.std.proofs.lemmas.Bool.Decides.{nat_tests}
use Rattle.std.specs.List.{AllByRecursion, list_any}
use Rattle.uca_weights.specs.declared.range.Range.{Range}
use Rattle.uca_model.specs.Table.{IsRange, AreDisjoint, AllDisjoint, AreRanges}
use Rattle.uca_model.specs.Ranges.{shares, highest_last, is_bad_range, put_range, AreByFirst}
use Rattle.uca_model.specs.ImplicitWeights.{lowest_first}
use Rattle.uca_model.proofs.ImplicitLemmas.{weaker, lowest_first-within}

front_of : (P : Range → Type 0) (front rest : List Range) → AllByRecursion P (front ++ rest) → AllByRecursion P front
front_of P [] rest all = tt
front_of P (s ∷ front) rest all = (all.0, front_of P front rest all.1)

pub after_front : (P : Range → Type 0) (front : List Range) (r : Range) (rest : List Range) → AllByRecursion P (front ++ r ∷ rest) → P r
after_front P [] r rest all = all.0
after_front P (s ∷ front) r rest all = after_front P front r rest all.1

apart : (front : List Range) (r : Range) (rest : List Range) → AllDisjoint (front ++ r ∷ rest) → AllByRecursion (λ s. AreDisjoint s r) front
apart [] r rest all = tt
apart (s ∷ front) r rest all = (after_front (AreDisjoint s) front r rest all.0, apart front r rest all.1)

shares_none : (r s : Range) → AreDisjoint s r → shares r s ≡ false
shares_none r s h = grind (arith, nat_tests)

no_shared : (r : Range) (front : List Range) → AllByRecursion (λ s. AreDisjoint s r) front → list_any (shares r) front ≡ false
no_shared r [] all = refl
no_shared r (s ∷ front) all = or_from _ _ (shares_none r s all.0) (no_shared r front all.1)

highest_last-within : (rs : List Range) (base high low : ℕ) → high - low < 0x8000 → AllByRecursion (λ s. s.base ≡ base → s.last - low < 0x8000) rs → highest_last rs base high - low < 0x8000
highest_last-within [] base high low h all = h
highest_last-within (s ∷ rs) base high low h all = elim (cases_Bool (s.base == base)) [
  | inl holds ↦ rw holds (let g : s.last - low < 0x8000 = all.0 (eqb-true _ _ holds) in highest_last-within rs base (max high s.last) low (omega arith) all.1)
  | inr fails ↦ rw fails (highest_last-within rs base high low h all.1)
]

-- how far a range of the same base is above the lowest
above_lowest : (front : List Range) (r s : Range) (rest : List Range) → s.base ≡ r.base → AllByRecursion (λ t. t.base ≡ s.base → s.last - t.first < 0x8000) (front ++ r ∷ rest) → s.last - lowest_first front r.base r.first < 0x8000
above_lowest front r s rest same all =
    lowest_first-within front r.base r.first s.last (after_front (λ t. t.base ≡ s.base → s.last - t.first < 0x8000) front r rest all (sym same))
    (weaker (λ t. t.base ≡ s.base → s.last - t.first < 0x8000) (λ t. t.base ≡ r.base → s.last - t.first < 0x8000) front (λ t f e. f (e ∙ sym same)) (front_of (λ t. t.base ≡ s.base → s.last - t.first < 0x8000) front (r ∷ rest) all))

spans_enough : (front : List Range) (r : Range) (rest : List Range) → AreRanges (front ++ r ∷ rest) → highest_last front r.base r.last - lowest_first front r.base r.first < 0x8000
spans_enough front r rest are =
    let P : Range → Type 0 = λ s. AllByRecursion (λ t. t.base ≡ s.base → s.last - t.first < 0x8000) (front ++ r ∷ rest) in
    highest_last-within front r.base r.last (lowest_first front r.base r.first) (above_lowest front r r rest refl (after_front P front r rest are.spans))
    (weaker P (λ s. s.base ≡ r.base → s.last - lowest_first front r.base r.first < 0x8000) front (λ s all same. above_lowest front r s rest same all) (front_of P front (r ∷ rest) are.spans))

-- a range is compatible with those before it
pub good_range : (front : List Range) (r : Range) (rest : List Range) → AreRanges (front ++ r ∷ rest) → is_bad_range front r ≡ false
good_range front r rest are =
    let is : IsRange r = after_front IsRange front r rest are.each in
    let span : highest_last front r.base r.last - lowest_first front r.base r.first < 0x8000 = spans_enough front r rest are in
    or_from _ _ (le-ltb r.last r.first is.ordered) (or_from _ _ (le-ltb r.base 0x8000 is.above) (or_from _ _ (no_shared r front (apart front r rest are.disjoint)) (le-ltb 0x7FFF _ (omega arith))))

-- a range that begins above all others is put after them
pub put_range-last : (front : List Range) (r : Range) (rest : List Range) → AreByFirst (front ++ r ∷ rest) → put_range r front ≡ front ++ r ∷ []
put_range-last [] r rest by_first = refl
put_range-last (s ∷ front) r rest by_first =
    let above : s.first < r.first = after_front (λ t. s.first < t.first) front r rest by_first.0 in
    cond-false _ _ _ (le-ltb r.first s.first (omega arith)) ∙ ap (λ (l : List Range). s ∷ l) (put_range-last front r rest by_first.1)
