-- The remaining elements, before and after a call.
use Rattle.std.proofs.Common.{◌≡◌, ℕ, ◌<◌, List, [], ◌∷◌, ◌++◌, length, Option, Some, None, refl, sym, ap, ap₂, subst, ◌∙◌}
use Rattle.std.proofs.lemmas.List.{nil_from_length}
use Rattle.uca_weights.specs.declared.element.Element.{Element}
use Rattle.uca_model.specs.Table.{is_key}
use Rattle.uca_model.specs.CollationElements.{step, elements, elements_or_implicit}
use Rattle.uca_model.specs.Source.{SourceState, unread}
use Rattle.uca_model.specs.Window.{ReadsOn, rest_of}
use Rattle.uca_model.proofs.RewritingLemmas.{elements_parts, elements_nil}
use Rattle.uca_match.specs.Yields.{Yields, YieldsFirst}
use Rattle.uca_match.specs.RemainingElements.{ElementsState, remaining_elements, window_of, waiting_of}

pub none_waits : (es : List Element) (o : Option Element) → length es ≡ 0 → ((x : Element) → o ≡ Some x → ⊥) → waiting_of es o ≡ []
none_waits es None none other = nil_from_length es none
none_waits es (Some x) none other = absurd (other x refl)

module _ (old new : ElementsState) (before after : SourceState) where
  pub Yields-end : (given : Option Element) → given ≡ None → old.waiting ≡ [] → new.waiting ≡ [] → ReadsOn old.window before new.window after
      → (rest_of old.window (unread before) ≡ []) × (rest_of new.window (unread after) ≡ []) → Yields remaining_elements window_of old before given new after
  Yields-end given none waits still reads ends =
      let nothing : (e : ElementsState) (rest : List ℕ) → e.waiting ≡ [] → rest ≡ [] → e.waiting ++ elements e.table rest ≡ [] =
      λ e rest w r. ap₂ (λ ws xs. ws ++ elements e.table xs) w r ∙ elements_nil e.table in
      record {
        reads = reads;
        first = subst (λ o. YieldsFirst (remaining_elements old (unread before)) o (remaining_elements new (unread after))) (sym none) (nothing old (rest_of old.window (unread before)) waits ends.0, nothing new (rest_of new.window (unread after)) still ends.1);
      }

  pub Yields-match : (first : Element) (key : List ℕ) → old.waiting ≡ [] → new.table ≡ old.table → ReadsOn old.window before new.window after → 0 < length (rest_of old.window (unread before))
      → (step (is_key old.table) (rest_of old.window (unread before))).matched.code_points ≡ key → (step (is_key old.table) (rest_of old.window (unread before))).rest ≡ rest_of new.window (unread after)
      → elements_or_implicit old.table key ≡ first ∷ new.waiting → Yields remaining_elements window_of old before (Some first) new after
  Yields-match first key waits same reads some matched rest gives =
      let xs : List ℕ = rest_of old.window (unread before) in
      let later : List ℕ = rest_of new.window (unread after) in
      record {
        reads = reads;
        first =
            ap (λ ws. ws ++ elements old.table xs) waits ∙ sym (elements_parts old.table xs key later some matched rest)
            ∙ ap (λ es. es ++ elements old.table later) gives
            ∙ ap (λ t. first ∷ (new.waiting ++ elements t later)) (sym same);
      }
