-- Two tables that agree outside a set of code points give the same elements to a text without any of them.
use Rattle.std.proofs.Common.{◌≡◌, ℕ, zero, suc, ◌<◌, Bool, true, false, cond, not, ◌&&◌, nat_eq, List, [], ◌∷◌, ◌++◌, length, take, drop, flat_map, slice_index, unwrap_or, refl, ap, ap₂, ◌∙◌, arith}
use Rattle.std.specs.Prelude.{Option, is_some}
use Rattle.unicode_normalization.specs.Forms.{nfd}
use Rattle.unicode_normalization.specs.Order.{is_starter}
use Rattle.uca_weights.specs.declared.element.Element.{Element}
use Rattle.uca_weights.specs.Settings.{levels}
use Rattle.uca_weights.specs.VariableWeighting.{weighted}
use Rattle.uca_model.specs.Table.{ElementTable, is_key}
use Rattle.uca_model.specs.Match.{Match, Step, took, greatest, longest_match_len, is_blocked, discontiguous_match}
use Rattle.uca_model.specs.CollationElements.{took_alone, step, matches_within, elements_or_implicit, elements}
use Rattle.uca_model.specs.SortKey.{all_levels, joined, sort_key}
use Rattle.uca_model.specs.TextLaws.{IsWithout, AgreeOutside, KeysOutliveTables}
use Rattle.uca_model.proofs.RewritingLemmas.{step_some}

-- ---- parts of lists without such code points

without-append : (p : ℕ → Bool) (xs ys : List ℕ) → IsWithout p xs → IsWithout p ys → IsWithout p (xs ++ ys)
without-append p [] ys of_xs of_ys = of_ys
without-append p (x ∷ xs) ys of_xs of_ys = (of_xs.0, without-append p xs ys of_xs.1 of_ys)

without-take : (p : ℕ → Bool) (n : ℕ) (xs : List ℕ) → IsWithout p xs → IsWithout p (take n xs)
without-take p zero xs of_xs = tt
without-take p (suc n) [] of_xs = tt
without-take p (suc n) (x ∷ xs) of_xs = (of_xs.0, without-take p n xs of_xs.1)

without-drop : (p : ℕ → Bool) (n : ℕ) (xs : List ℕ) → IsWithout p xs → IsWithout p (drop n xs)
without-drop p zero xs of_xs = of_xs
without-drop p (suc n) [] of_xs = tt
without-drop p (suc n) (x ∷ xs) of_xs = without-drop p n xs of_xs.1

without-first : (p : ℕ → Bool) (xs : List ℕ) → 0 < length xs → IsWithout p xs → p (slice_index xs 0) ≡ false
without-first p [] some of_xs = absurd (omega arith)
without-first p (x ∷ xs) some of_xs = of_xs.0

-- ---- matching by two tests of keys that agree there

greatest-same : (p q : ℕ → Bool) → ((n : ℕ) → p n ≡ q n) → (n : ℕ) → greatest p n ≡ greatest q n
greatest-same p q same zero = refl
greatest-same p q same (suc n) = ap₂ (λ (b : Bool) (k : ℕ). cond b (suc n) k) (same (suc n)) (greatest-same p q same n)

-- a step gives a match and leaves a text, both without such code points
record StepIsWithout (p : ℕ → Bool) (s : Step) : Type 0 where
  matched : IsWithout p s.matched.code_points
  rest : IsWithout p s.rest

either : (p : ℕ → Bool) (b : Bool) (x y : Step) → StepIsWithout p x → StepIsWithout p y → StepIsWithout p (cond b x y)
either p true x y of_x of_y = of_x
either p false x y of_x of_y = of_y

module _ (p : ℕ → Bool) (k j : List ℕ → Bool) (same : (xs : List ℕ) → IsWithout p xs → k xs ≡ j xs) where
  extension-without : (s passed cs : List ℕ) → IsWithout p s → IsWithout p passed → IsWithout p cs → StepIsWithout p (discontiguous_match k s passed cs)
  unfolding discontiguous_match
  extension-without s passed [] of_s of_passed of_cs = record { matched = of_s; rest = of_passed }
  extension-without s passed (c ∷ cs) of_s of_passed of_cs =
      either p (is_starter c) (took s (passed ++ c ∷ cs)) _ (record { matched = of_s; rest = without-append p passed (c ∷ cs) of_passed of_cs })
      (either p (not (is_blocked passed c) && k (s ++ c ∷ [])) _ _
      (extension-without (s ++ c ∷ []) passed cs (without-append p s (c ∷ []) of_s (of_cs.0, tt)) of_passed of_cs.1)
      (extension-without s (passed ++ c ∷ []) cs of_s (without-append p passed (c ∷ []) of_passed (of_cs.0, tt)) of_cs.1))

  extension-same : (s passed cs : List ℕ) → IsWithout p s → IsWithout p passed → IsWithout p cs → discontiguous_match k s passed cs ≡ discontiguous_match j s passed cs
  unfolding discontiguous_match
  extension-same s passed [] of_s of_passed of_cs = refl
  extension-same s passed (c ∷ cs) of_s of_passed of_cs =
      let more : IsWithout p (s ++ c ∷ []) = without-append p s (c ∷ []) of_s (of_cs.0, tt) in
      let is = same (s ++ c ∷ []) more in
      let taken = extension-same (s ++ c ∷ []) passed cs more of_passed of_cs.1 in
      let kept = extension-same s (passed ++ c ∷ []) cs of_s (without-append p passed (c ∷ []) of_passed (of_cs.0, tt)) of_cs.1 in
      λ i. cond (is_starter c) (took s (passed ++ c ∷ cs)) (cond (not (is_blocked passed c) && is i) (taken i) (kept i))

  len-same : (xs : List ℕ) → IsWithout p xs → longest_match_len k xs ≡ longest_match_len j xs
  len-same xs of_xs = greatest-same (λ n. k (take n xs)) (λ n. j (take n xs)) (λ n. same (take n xs) (without-take p n xs of_xs)) (length xs)

  step-without : (xs : List ℕ) → IsWithout p xs → StepIsWithout p (step k xs)
  step-without xs of_xs =
      let n = longest_match_len k xs in
      either p (nat_eq n 0) (took_alone xs) _ (record { matched = without-take p 1 xs of_xs; rest = without-drop p 1 xs of_xs })
      (extension-without (take n xs) [] (drop n xs) (without-take p n xs of_xs) tt (without-drop p n xs of_xs))

  step-same : (xs : List ℕ) → IsWithout p xs → step k xs ≡ step j xs
  step-same xs of_xs =
      let n = longest_match_len k xs in
      ap (λ (s : Step). cond (nat_eq n 0) (took_alone xs) s) (extension-same (take n xs) [] (drop n xs) (without-take p n xs of_xs) tt (without-drop p n xs of_xs))
      ∙ ap (λ (m : ℕ). cond (nat_eq m 0) (took_alone xs) (discontiguous_match j (take m xs) [] (drop m xs))) (len-same xs of_xs)

-- ---- the elements

module _ (p : ℕ → Bool) (t u : ElementTable) (agree : AgreeOutside p t u) where
  key-same : (xs : List ℕ) → IsWithout p xs → is_key t xs ≡ is_key u xs
  key-same xs of_xs = ap is_some (agree.keys xs of_xs)

  found-same : (key : List ℕ) → 0 < length key → IsWithout p key → elements_or_implicit t key ≡ elements_or_implicit u key
  found-same key some of_key = ap₂ (λ (o : Option (List Element)) (d : List Element). unwrap_or o d) (agree.keys key of_key) (agree.implicit (slice_index key 0) (without-first p key some of_key))

  elements-same-within : (n : ℕ) (xs : List ℕ) → IsWithout p xs → flat_map (λ (m : Match). elements_or_implicit t m.code_points) (matches_within n (is_key t) xs) ≡ flat_map (λ (m : Match). elements_or_implicit u m.code_points) (matches_within n (is_key u) xs)
  unfolding matches_within
  elements-same-within zero xs of_xs = refl
  elements-same-within (suc n) [] of_xs = refl
  elements-same-within (suc n) (x ∷ xs) of_xs =
      let first : Step = step (is_key t) (x ∷ xs) in
      let of_first = step-without p (is_key t) (is_key u) key-same (x ∷ xs) of_xs in
      let found = found-same first.matched.code_points (step_some (is_key t) (x ∷ xs) (omega arith)) of_first.matched in
      let later = elements-same-within n first.rest of_first.rest in
      ap₂ (λ (es fs : List Element). es ++ fs) found later
      ∙ ap (λ (s : Step). elements_or_implicit u s.matched.code_points ++ flat_map (λ (m : Match). elements_or_implicit u m.code_points) (matches_within n (is_key u) s.rest)) (step-same p (is_key t) (is_key u) key-same (x ∷ xs) of_xs)

  pub elements-same : (xs : List ℕ) → IsWithout p xs → elements t xs ≡ elements u xs
  elements-same xs of_xs = elements-same-within (length xs) xs of_xs

pub keys-outlive : KeysOutliveTables
unfolding sort_key
keys-outlive changed t u s text agree without = ap (λ (es : List Element). joined (take (levels s.strength) (all_levels (weighted s.weighting es) (nfd text)))) (elements-same changed t u agree (nfd text) without)
