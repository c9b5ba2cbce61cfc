-- The level lists of a text where variable elements are not ignored are the weights of its elements.
use Rattle.std.proofs.Common.{◌≡◌, ℕ, ◌-◌, not, ◌==◌, List, [], ◌∷◌, ◌++◌, map, filter, slice_index, refl, ap, ap₂, ◌∙◌}
use Rattle.unicode_normalization.specs.Forms.{nfd}
use Rattle.uca_weights.specs.declared.element.Element.{Element}
use Rattle.uca_weights.specs.declared.settings.Variable.TheVariants.{NonIgnorable}
use Rattle.uca_weights.specs.Element.{weight}
use Rattle.uca_weights.specs.VariableWeighting.{unchanged, weighted_after, weighted}
use Rattle.uca_model.specs.Table.{ElementTable}
use Rattle.uca_model.specs.CollationElements.{elements}
use Rattle.uca_model.specs.LevelWeights.{level_weights, level_list}
use Rattle.uca_tailor.specs.TailoringLaws.{weights_at}
use Rattle.uca_tailor.proofs.Levels.{IsLevel, level_one, level_two, level_three}

weighted_plain : (before es : List Element) → weighted_after NonIgnorable before es ≡ map (λ e. unchanged e 0) es
weighted_plain before [] = refl
weighted_plain before (e ∷ es) = ap (λ x. unchanged e 0 ∷ x) (weighted_plain (before ++ e ∷ []) es)

column : (j : ℕ) (es : List Element) → ((e : Element) → slice_index (unchanged e 0) (j - 1) ≡ weight j e) → map (λ x. slice_index x (j - 1)) (map (λ e. unchanged e 0) es) ≡ map (weight j) es
column j [] is = refl
column j (e ∷ es) is = ap₂ (λ x xs. x ∷ xs) (is e) (column j es is)

plain_weights : (j : ℕ) (es : List Element) → ((e : Element) → slice_index (unchanged e 0) (j - 1) ≡ weight j e) → level_weights j (weighted NonIgnorable es) ≡ weights_at j es
plain_weights j es is = ap (level_weights j) (weighted_plain [] es) ∙ ap (filter (λ x. not (x == 0))) (column j es is)

pub plain_list : (t : ElementTable) (x : List ℕ) (j : ℕ) → IsLevel j → level_list t NonIgnorable x j ≡ weights_at j (elements t (nfd x))
plain_list t x j level_one = plain_weights 1 (elements t (nfd x)) (λ e. refl)
plain_list t x j level_two = plain_weights 2 (elements t (nfd x)) (λ e. refl)
plain_list t x j level_three = plain_weights 3 (elements t (nfd x)) (λ e. refl)
