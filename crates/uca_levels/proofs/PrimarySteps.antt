-- The primary weights of a text, character after character.
use Rattle.std.proofs.Common.{◌≡◌, ℕ, Bool, true, false, cond, not, ◌==◌, List, [], ◌∷◌, ◌++◌, drop, encode_utf8, map, filter, ne_eqb, refl, sym, ap, ap₂, ◌∙◌, arith}
use Rattle.std.specs.List.{list_all}
use Rattle.std.proofs.lemmas.Bool.{cond-true}
use Rattle.std.proofs.lemmas.List.{nil_from_length}
use Rattle.std.proofs.lemmas.Str.{chars-nil, chars_past_char}
use Rattle.unicode_normalization.specs.Forms.{nfd}
use Rattle.uca_weights.specs.declared.element.Element.{Element}
use Rattle.uca_weights.specs.declared.settings.Variable.{Variable}
use Rattle.uca_weights.specs.declared.settings.Variable.TheVariants.{NonIgnorable, Blanked, Shifted}
use Rattle.uca_weights.specs.VariableWeighting.{weighted}
use Rattle.uca_model.specs.CollationElements.{elements}
use Rattle.uca_model.specs.LevelWeights.{level_list, level_weights}
use Rattle.uca_model.specs.Table.{ElementTable}
use Rattle.uca_model.proofs.PrefixLemmas.{first_level-is, first_level-append}
use Rattle.uca_model.proofs.StandAloneLemmas.{elements_none}
use Rattle.uca_model.specs.SafeText.{IsSafe}
use Rattle.uca_match.proofs.TextLemmas.{IsSafe-rest}
use Rattle.uca_table.specs.Lead.{IsLead}
use Rattle.uca_levels.specs.declared.primaries.Primaries.{Primaries}
use Rattle.uca_levels.specs.Primaries.{primary_of, weights_before}
use Rattle.uca_levels.specs.Streams.{weight_before}
use Rattle.std.proofs.lemmas.Grind.{common_steps}

-- the primary weights of elements that are not zero
abbrev pub primaries : Variable → List Element → List ℕ
primaries v es = filter (λ w. not (w == 0)) (map (primary_of v) es)

pub primaries-are : (v : Variable) (es : List Element) → level_weights 1 (weighted v es) ≡ primaries v es
primaries-are NonIgnorable es = first_level-is NonIgnorable es
primaries-are Blanked es = first_level-is Blanked es
primaries-are Shifted es = first_level-is Shifted es

-- those of two lists, one after the other
pub primaries-both : (v : Variable) (xs ys : List Element) → level_weights 1 (weighted v (xs ++ ys)) ≡ level_weights 1 (weighted v xs) ++ level_weights 1 (weighted v ys)
primaries-both v xs ys = first_level-is v (xs ++ ys) ∙ first_level-append v xs ys ∙ sym (ap₂ (λ a b. a ++ b) (first_level-is v xs) (first_level-is v ys))

-- a weight before nothing, and then others
before-others : (n : ℕ) (l : List ℕ) → weight_before n [] ++ l ≡ weight_before n l
before-others n l = grind (arith, common_steps)

-- a character has these elements before the rest of a text
module _ (t : ElementTable) (v : Variable) (c : ℕ) (rest : List ℕ) (es : List Element) (whole : es ++ elements t (nfd rest) ≡ elements t (nfd (c ∷ rest))) where
  step : (ws : List ℕ) → level_weights 1 (weighted v es) ≡ ws → level_list t v (c ∷ rest) 1 ≡ ws ++ level_list t v rest 1
  step ws own = ap (λ l. level_weights 1 (weighted v l)) (sym whole) ∙ primaries-both v es (elements t (nfd rest)) ∙ ap (λ l. l ++ level_list t v rest 1) own

  -- one of them has a primary weight
  pub first-weight : (w : ℕ) → level_weights 1 (weighted v es) ≡ weight_before w [] → (w ≡ 0 → ⊥) → level_list t v (c ∷ rest) 1 ≡ w ∷ level_list t v rest 1
  first-weight w own some = step _ own ∙ ap (λ l. l ++ level_list t v rest 1) (cond-true (not (w == 0)) _ _ (ap not (ne_eqb w 0 some)))

  -- one or two have
  pub own-weights : (w : Primaries) → level_weights 1 (weighted v es) ≡ weights_before w [] → level_list t v (c ∷ rest) 1 ≡ weights_before w (level_list t v rest 1)
  own-weights w own = step _ own ∙ ap (λ l. w.first ∷ l) (before-others w.second (level_list t v rest 1))

-- ---- elements of which only the first may have a primary weight

zero-primary : (v : Variable) (d : Element) → (d.l1 == 0) ≡ true → (primary_of v d == 0) ≡ true
zero-primary v d h = grind (arith, common_steps)

none-left : (v : Variable) (ds : List Element) → list_all (λ x. x.l1 == 0) ds ≡ true → primaries v ds ≡ []
none-left v [] h = refl
none-left v (d ∷ ds) h = grind (arith, common_steps, zero-primary, none-left v ds)

pub lead-weight : (v : Variable) (e : Element) (es : List Element) {w : ℕ} → IsLead e es → w ≡ primary_of v e → level_weights 1 (weighted v es) ≡ weight_before w []
lead-weight v e es lead is =
    primaries-are v es
    ∙ ap (primaries v) lead.first
    ∙ ap (λ l. cond (not (primary_of v e == 0)) (primary_of v e ∷ l) l) (none-left v (drop 1 es) lead.none)
    ∙ ap (λ w. weight_before w []) (sym is)

-- ---- the first character of a text

pub safe-next : (c : ℕ) (cs : List ℕ) → IsSafe (c ∷ cs) → IsSafe cs
safe-next c cs safe = IsSafe-rest (c ∷ []) cs safe

-- what is read of a text character by character uses
pub ruleset characters = (common_steps, nil_from_length, chars-nil, elements_none, encode_utf8, chars_past_char, safe-next, own-weights)
