-- A text that is a key is matched whole, so an item has the elements of its entry.
use Rattle.std.proofs.Common.{◌≡◌, ℕ, suc, ◌≤◌, Bool, true, cond, nat_eq, List, [], ◌∷◌, ◌++◌, length, take, drop, Some, is_some, unwrap_or, refl, sym, ap, ap₂, ◌∙◌, arith, ne_eqb}
use Rattle.std.proofs.Math.ListN.{drop_of_length-le}
use Rattle.std.proofs.Math.Seq.{take-length}
use mathlib.Core.List.{append-nil}
use Rattle.uca_weights.specs.declared.element.Element.{Element}
use Rattle.uca_model.specs.Table.{ElementTable, elements_at, is_key}
use Rattle.uca_model.specs.ImplicitWeights.{implicit}
use Rattle.uca_model.specs.Match.{Step, took, greatest, longest_match_len, discontiguous_match}
use Rattle.uca_model.specs.CollationElements.{took_alone, step, elements, elements_or_implicit}
use Rattle.uca_model.proofs.RewritingLemmas.{elements_step, elements_nil}
use Rattle.uca_tailor.specs.TailoringLaws.{EachItemIsAnAnchor}
use Rattle.uca_tailor.proofs.ChangedTables.{elements_at-here}
use Rattle.uca_tailor.proofs.RelationFacts.{is_entered}

extension_of_nil : (k : List ℕ → Bool) (s p : List ℕ) → discontiguous_match k s p [] ≡ took s p
unfolding discontiguous_match
extension_of_nil k s p = refl

starts_whole : (k : List ℕ → Bool) (x : ℕ) (xs : List ℕ) → k (x ∷ xs) ≡ true → longest_match_len k (x ∷ xs) ≡ suc (length xs)
starts_whole k x xs h =
    let e : take (suc (length xs)) (x ∷ xs) ≡ x ∷ xs = take-length (x ∷ xs) in
    ap (λ b. cond b (suc (length xs)) (greatest (λ n. k (take n (x ∷ xs))) (length xs))) (ap k e ∙ h)

not_zero : (n : ℕ) (a b : Step) → cond (nat_eq (suc n) 0) a b ≡ b
not_zero n a b = ap (λ z. cond z a b) (ne_eqb (suc n) 0 (λ e. absurd (omega arith)))

-- a text that is a key is matched whole
step_own : (k : List ℕ → Bool) (x : ℕ) (xs : List ℕ) → k (x ∷ xs) ≡ true → step k (x ∷ xs) ≡ took (x ∷ xs) []
step_own k x xs h =
    let t : take (suc (length xs)) (x ∷ xs) ≡ x ∷ xs = take-length (x ∷ xs) in
    let d : drop (suc (length xs)) (x ∷ xs) ≡ [] = (let l : length (x ∷ xs) ≤ suc (length xs) = omega arith in drop_of_length-le (x ∷ xs) l) in
    ap (λ n. cond (nat_eq n 0) (took_alone (x ∷ xs)) (discontiguous_match k (take n (x ∷ xs)) [] (drop n (x ∷ xs)))) (starts_whole k x xs h)
    ∙ not_zero (length xs) (took_alone (x ∷ xs)) (discontiguous_match k (take (suc (length xs)) (x ∷ xs)) [] (drop (suc (length xs)) (x ∷ xs)))
    ∙ ap₂ (λ s r. discontiguous_match k s [] r) t d ∙ extension_of_nil k (x ∷ xs) []

-- and has the elements of that key
elements_own : (t : ElementTable) (x : ℕ) (xs : List ℕ) → is_key t (x ∷ xs) ≡ true → elements t (x ∷ xs) ≡ elements_or_implicit t (x ∷ xs)
elements_own t x xs h =
    elements_step t (x ∷ xs) (omega arith)
    ∙ ap (λ s. elements_or_implicit t s.matched.code_points ++ elements t s.rest) (step_own (is_key t) x xs h)
    ∙ ap (λ r. elements_or_implicit t (x ∷ xs) ++ r) (elements_nil t) ∙ append-nil (elements_or_implicit t (x ∷ xs))

pub item_elements : (u : ElementTable) (item : List ℕ) (es : List Element) → 1 ≤ length item → elements_at u item ≡ Some es → elements u item ≡ es
item_elements u [] es some e = absurd (omega arith)
item_elements u (x ∷ xs) es some e = elements_own u x xs (ap is_some e) ∙ ap (λ o. unwrap_or o (implicit u x)) e

-- an item without an expansion is the anchor of the next relation
pub each_anchor : EachItemIsAnAnchor
each_anchor t anchor r next some no_expansion e =
    let h = is_entered t anchor r next e in
    item_elements next.table r.item _ some (ap (λ z. elements_at z r.item) h.table ∙ elements_at-here h.place.table r.item _)
    ∙ ap (λ x. h.place.base ++ elements h.place.table x) no_expansion ∙ ap (λ x. h.place.base ++ x) (elements_nil h.place.table) ∙ append-nil h.place.base ∙ sym h.base
