-- A weigher that was given the elements of a list gives the weights of those after them.
use Rattle.std.proofs.Common.{◌≡◌, false, List, [], ◌∷◌, ◌++◌, find, refl, sym, ap, ◌∙◌, inl, inr}
use Rattle.std.proofs.lemmas.Bool.{cases_Bool, cond-true, cond-false}
use Rattle.std.proofs.lemmas.List.{reverse-append}
use Rattle.std.specs.Option.{option_map_or}
use Rattle.uca_weights.specs.declared.element.Element.{Element}
use Rattle.uca_weights.specs.declared.settings.Variable.{Variable}
use Rattle.uca_weights.specs.Element.{has_primary, is_variable}
use Rattle.uca_weights.specs.VariableWeighting.{is_after_variable, weights, weighted_after, weighted}
use Rattle.uca_weights.specs.Weigher.{after_element, weighted_from}

after_one_more : (before : List Element) (e : Element) → is_after_variable (before ++ e ∷ []) ≡ after_element (is_after_variable before) e
after_one_more before e =
    ap (λ l. option_map_or is_variable (find has_primary l) false) (reverse-append before (e ∷ []))
    ∙ elim (cases_Bool (has_primary e)) [
      | inl some ↦ ap (λ o. option_map_or is_variable o false) (cond-true _ _ _ some) ∙ sym (cond-true _ _ _ some)
      | inr none ↦ ap (λ o. option_map_or is_variable o false) (cond-false _ _ _ none) ∙ sym (cond-false _ _ _ none)
    ]

weighted_after-from : (v : Variable) (before es : List Element) → weighted_after v before es ≡ weighted_from (record { weighting = v; after = is_after_variable before }) es
weighted_after-from v before [] = refl
weighted_after-from v before (e ∷ es) =
    ap (λ ws. weights v (is_after_variable before) e ∷ ws) (weighted_after-from v (before ++ e ∷ []) es ∙ ap (λ b. weighted_from (record { weighting = v; after = b }) es) (after_one_more before e))

pub weighted-from : (v : Variable) (es : List Element) → weighted v es ≡ weighted_from (record { weighting = v; after = false }) es
weighted-from v es = weighted_after-from v [] es
