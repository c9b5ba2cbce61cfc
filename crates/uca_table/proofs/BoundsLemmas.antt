-- The bounds of elements answer for all pairs of them.
use Rattle.uca_table.proofs.Common.{◌≡◌, ◌≢◌, ℕ, Bool, false, not, ◌&&◌, ◌||◌, ◌==◌, nat_le, List, [], ◌∷◌, fold, refl, sym, ap, ◌∙◌, arith, or-false, or_assoc, nat_tests, list_any, Element, ElementTable, all_elements, is_broken, is_low_secondary, is_low_tertiary, lies_between, bounded, unbounded, condition_of, is_against}
use Rattle.uca_weights.specs.Element.{is_variable}
use Rattle.uca_table.specs.declared.well_formed.Bounds.{Bounds}
use Rattle.uca_table.specs.declared.well_formed.WellFormed.{WellFormed}
use Rattle.uca_table.specs.declared.well_formed.WellFormed.TheVariants.{WF1, WF2, WF3, WF4, WF5}

-- a test that more bounds pass where the element passes another one
folded : (test : Bounds → Bool) (hit : Element → Bool) → ((b : Bounds) (e : Element) → test (bounded b e) ≡ (test b || hit e)) → (b : Bounds) (es : List Element) → test (fold bounded b es) ≡ (test b || list_any hit es)
folded test hit step b [] = sym (or-false (test b))
folded test hit step b (e ∷ es) = folded test hit step (bounded b e) es ∙ ap (λ a. a || list_any hit es) (step b e) ∙ or_assoc (test b) (hit e) (list_any hit es)

-- the bounds of elements pass it where one of them passes that one
gathered : (test : Bounds → Bool) (hit : Element → Bool) → test unbounded ≡ false → ((b : Bounds) (e : Element) → test (bounded b e) ≡ (test b || hit e)) → (es : List Element) → test (fold bounded unbounded es) ≡ list_any hit es
gathered test hit none step es = folded test hit step unbounded es ∙ ap (λ a. a || list_any hit es) none

-- the second condition, by the highest weights

below_none : (e : Element) → is_against unbounded WF2 e ≡ false
below_none e = grind (arith, nat_tests)

below_step : (e : Element) (b : Bounds) (other : Element) → is_against (bounded b other) WF2 e ≡ (is_against b WF2 e || (is_low_secondary e other || is_low_tertiary e other))
below_step e b other = grind (arith, nat_tests)

-- the fourth, by the highest weight for each low one, and then by the lowest

-- an element that is not variable lies between one that is and a weight
abbrev lies_below : Element → ℕ → Element → Bool
lies_below e top low = not (is_variable e) && (is_variable low && nat_le low.l1 e.l1) && nat_le e.l1 top

-- between the lowest that is variable and a weight
abbrev lies_within : Element → ℕ → Bounds → Bool
lies_within e top b = not (is_variable e) && (not (b.lowest == 0) && nat_le b.lowest e.l1) && nat_le e.l1 top

high_none : (e low : Element) → lies_below e 0 low ≡ false
high_none e low = grind (arith, nat_tests)

high_step : (e low : Element) (b : Bounds) (high : Element) → lies_below e (bounded b high).highest low ≡ (lies_below e b.highest low || lies_between e low high)
high_step e low b high = grind (arith, nat_tests)

low_none : (e : Element) (top : ℕ) → lies_within e top unbounded ≡ false
low_none e top = grind (arith, nat_tests)

low_step : (e : Element) (top : ℕ) (b : Bounds) (low : Element) → lies_within e top (bounded b low) ≡ (lies_within e top b || lies_below e top low)
low_step e top b low = grind (arith, nat_tests)

inside_pairs : (es : List Element) (e : Element) → is_against (fold bounded unbounded es) WF4 e ≡ list_any (λ low. list_any (lies_between e low) es) es
inside_pairs es e =
    let top : ℕ = (fold bounded unbounded es).highest in
    gathered (lies_within e top) (lies_below e top) (low_none e top) (low_step e top) es
    ∙ ap (λ f. list_any f es) (λ i low. gathered (λ b. lies_below e b.highest low) (lies_between e low) (high_none e low) (high_step e low) es i)

-- the bounds of all elements answer for each of the first four conditions
pub against_all : (t : ElementTable) (condition : WellFormed) → condition ≢ WF5 → list_any (is_against (fold bounded unbounded (all_elements t)) condition) (all_elements t) ≡ is_broken t (condition_of condition)
against_all t WF1 other = refl
against_all t WF2 other = ap (λ f. list_any f (all_elements t)) (λ i e. gathered (λ b. is_against b WF2 e) (λ o. is_low_secondary e o || is_low_tertiary e o) (below_none e) (below_step e) (all_elements t) i)
against_all t WF3 other = refl
against_all t WF4 other = ap (λ f. list_any f (all_elements t)) (λ i e. inside_pairs (all_elements t) e i)
against_all t WF5 other = absurd (other refl)
