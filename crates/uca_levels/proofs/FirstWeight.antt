-- The first primary weight of texts that begin with a character, and the order that such weights decide.
use Rattle.std.proofs.Common.{◌≡◌, ℕ, ◌<◌, ◌^◌, true, false, not, ◌==◌, List, [], ◌∷◌, ◌++◌, flat_map, slice_index, Option, Some, None, refl, sym, ap, ◌∙◌, arith, append-nil, ne_eqb}
use Rattle.std.proofs.lemmas.Bool.{cond-true}
use Rattle.std.proofs.lemmas.List.Concat.{flat_map-append}
use Rattle.std.specs.declared.cmp.Ordering.{Ordering}
use Rattle.unicode_normalization.specs.Decompose.{decompose_canonical}
use Rattle.unicode_normalization.proofs.TableFacts.{is_final}
use Rattle.unicode_normalization.specs.Forms.{Nfd, nfd}
use Rattle.unicode_normalization.specs.Order.{canonical_order}
use Rattle.unicode_normalization.proofs.ComposeLemmas.{flat_map-final}
use Rattle.unicode_normalization.proofs.DecomposeLemmas.{IsFull-decompose, decompose-final}
use Rattle.uca_weights.specs.declared.element.Element.{Element}
use Rattle.uca_weights.specs.declared.settings.Variable.{Variable}
use Rattle.uca_weights.specs.VariableWeighting.{weights, weighted, weighted_after}
use Rattle.uca_model.specs.Table.{ElementTable, IsTable}
use Rattle.uca_model.specs.CollationElements.{elements}
use Rattle.uca_model.specs.LevelWeights.{level_weights, level_list}
use Rattle.uca_model.specs.SafeCut.{is_safe_starter}
use Rattle.uca_model.proofs.SafeLemmas.{nfd-is}
use Rattle.uca_model.proofs.SafeCutLemmas.{safe_starter-facts, level_list-cut}
use Rattle.uca_levels.specs.Decides.{Decides}
use Rattle.uca_levels.specs.FirstWeight.{BringsWeight, OrderTexts}
use Rattle.uca_levels.proofs.StreamLemmas.{decides-whole}
use Rattle.uca_levels.proofs.WithoutFront.{no_list}

-- the decomposition of the first character in its place
nfd-decomposed : (c : ℕ) (later : List ℕ) → nfd (c ∷ later) ≡ nfd (decompose_canonical c ++ later)
nfd-decomposed c later =
    simp (nfd-is, flat_map-append) (ap (λ ds. canonical_order (ds ++ flat_map decompose_canonical later)) (sym (flat_map-final decompose_canonical (is_final Nfd) (decompose-final Nfd) (decompose_canonical c) (IsFull-decompose Nfd c).final)))

pub first-brings : (t : ElementTable) (v : Variable) (c s : ℕ) (parts ds : List ℕ) (e : Element) (es others : List Element) (weight : ℕ)
    → IsTable t → parts ≡ decompose_canonical c → parts ≡ s ∷ ds → is_safe_starter t s ≡ true
    → ((after : List ℕ) → es ++ elements t (nfd after) ≡ elements t (nfd (s ∷ after))) → es ≡ e ∷ others
    → weight ≡ slice_index (weights v false e) 0 → (weight ≡ 0 → ⊥) → weight < 2 ^ 16 → BringsWeight t v (Some c) (Some weight)
first-brings t v c s parts ds e es others weight valid of_c first safe alone begins is some small = record {
  number = record { weight = λ _. (omega (arith, some), small); point = omega (arith, small) };
  others = after_first;
  first = own;
  lists = λ front later. level_list-cut t v front later c valid (record { s = s; others = ds; parts = sym of_c ∙ first; safe = safe_starter-facts t s safe }) 1;
}
  where
    after_first : List ℕ → List ℕ
    after_first later = level_weights 1 (weighted_after v (e ∷ []) (others ++ elements t (nfd (ds ++ later))))

    whole : (later : List ℕ) → elements t (nfd (c ∷ later)) ≡ e ∷ (others ++ elements t (nfd (ds ++ later)))
    whole later =
        ap (elements t) (nfd-decomposed c later ∙ ap (λ l. nfd (l ++ later)) (sym of_c ∙ first))
        ∙ sym (alone (ds ++ later)) ∙ ap (λ l. l ++ elements t (nfd (ds ++ later))) begins

    own : (later : List ℕ) → level_list t v (c ∷ later) 1 ≡ weight ∷ after_first later
    own later =
        ap (λ l. level_weights 1 (weighted v l)) (whole later)
        ∙ cond-true (not (slice_index (weights v false e) 0 == 0)) _ _ (ap (λ n. not (n == 0)) (sym is) ∙ ap not (ne_eqb weight 0 some))
        ∙ ap (λ n. n ∷ after_first later) (sym is)

pub end-brings : (t : ElementTable) (v : Variable) → BringsWeight t v None None
end-brings t v = record {
  number = tt;
  others = λ _. [];
  first = λ _. (no_list t v 1, refl);
  lists = λ front _. ap (λ l. level_list t v l 1) (append-nil front) ∙ sym (append-nil (level_list t v front 1)) ∙ ap (λ l. level_list t v front 1 ++ l) (sym (no_list t v 1));
}

-- ---- what decides

pub order-brought : (t : ElementTable) (v : Variable) (x y p q u w : Option ℕ) (o : Ordering) → BringsWeight t v x p → BringsWeight t v y q → u ≡ p → w ≡ q → Decides u w o → OrderTexts t v x y o
order-brought t v x y p q u w o h k e f decides = λ front a b.
    decides-whole 1 p q u w o _ _ _ _ _ _ decides e f (omega arith) h.number k.number (record { front = level_list t v front 1; first = h.lists front a; second = k.lists front b }) (h.first a) (k.first b)
