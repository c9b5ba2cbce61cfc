-- Common weights that are counted together.
use Rattle.uca_key.proofs.Common.{◌≡◌, ℕ, ◌+◌, ◌-◌, ◌<◌, ◌==◌, not, List, [], ◌∷◌, ◌++◌, drop, filter, get_or, length, slice_index, refl, sym, ◌∙◌, arith, append_assoc, eq-eqb, ne_eqb, cases_Bool, cond-true, cond-false, drop_more, Element, Variable, level_weights, common_weight, runs_after, all_own, own_weights, common_steps}
use Rattle.uca_key.proofs.WeighingLemmas.{own_weights-both}

-- one more
one-common : (common run : ℕ) (ws : List ℕ) → run + 1 < 62 → runs_after common (run + 1) ws ≡ runs_after common run (common ∷ ws)
one-common common run ws few = sym (cond-true _ _ _ (eq-eqb common common refl) ∙ cond-false _ _ _ (ne_eqb (run + 1) 62 (λ e. absurd (omega arith))))

-- a common weight is not zero
common-stays : (level : ℕ) → filter (λ w. not (w == 0)) (common_weight level ∷ []) ≡ common_weight level ∷ []
common-stays level = grind (arith, common_steps, cases_Bool, cond-true, cond-false)

-- the weights from one element on
pub weights-one : (v : Variable) (level i w : ℕ) (es : List Element) (d : Element) (ws : List ℕ) → i < length es → w ≡ slice_index (own_weights v (get_or es i d)) (level - 1)
    → level_weights level (all_own v (drop i es)) ++ ws ≡ filter (λ x. not (x == 0)) (w ∷ []) ++ (level_weights level (all_own v (drop (i + 1) es)) ++ ws)
weights-one v level i w es d ws within is = grind (arith, common_steps, drop_more, own_weights-both, append_assoc)

-- a common weight more, in a run that is not full
pub run-step : (v : Variable) (level run n : ℕ) (es : List Element) (d : Element) (ws : List ℕ) {w : ℕ} → run + 1 < 62 → n < length es → w ≡ common_weight level → w ≡ slice_index (own_weights v (get_or es n d)) (level - 1)
    → runs_after (common_weight level) (run + 1) (level_weights level (all_own v (drop (n + 1) es)) ++ ws) ≡ runs_after (common_weight level) run (level_weights level (all_own v (drop n es)) ++ ws)
run-step v level run n es d ws {w} few within common is = grind (arith, common_steps, common-stays, one-common, weights-one)

-- an element without a weight is passed
pub blank-step : (v : Variable) (level n : ℕ) (es : List Element) (d : Element) (ws : List ℕ) → n < length es → slice_index (own_weights v (get_or es n d)) (level - 1) ≡ 0
    → level_weights level (all_own v (drop (n + 1) es)) ++ ws ≡ level_weights level (all_own v (drop n es)) ++ ws
blank-step v level n es d ws within none = sym (weights-one v level n 0 es d ws within (sym none))
