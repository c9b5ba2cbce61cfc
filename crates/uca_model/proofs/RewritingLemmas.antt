-- A text goes match after match, and each match shortens it.
use Rattle.std.proofs.Common.{◌≡◌, ℕ, ◌+◌, ◌-◌, ◌≤◌, ◌<◌, suc, zero, min, Bool, true, false, cond, not, ◌&&◌, nat_eq, List, [], ◌∷◌, ◌++◌, length, take, drop, flat_map, refl, sym, ap, ap₂, ◌∙◌, arith, inl, inr, length-append}
use Rattle.std.proofs.lemmas.Bool.{cases_Bool, eqb-false}
use Rattle.std.proofs.lemmas.List.{length-drop, length-take}
use Rattle.unicode_normalization.specs.Order.{is_starter}
use Rattle.uca_model.specs.Table.{ElementTable, is_key}
use Rattle.uca_model.specs.Match.{Step, longest_match_len, is_blocked, discontiguous_match}
use Rattle.uca_model.specs.CollationElements.{step, matches_within, matches}
use Rattle.uca_model.specs.CollationElements.{elements, elements_or_implicit}

either : (b : Bool) (x y : Step) (n : ℕ) → length x.rest ≤ n → length y.rest ≤ n → length (cond b x y).rest ≤ n
either true x y n h g = h
either false x y n h g = g

pub discontiguous_match-shorter : (is_key : List ℕ → Bool) (s passed cs : List ℕ) → length (discontiguous_match is_key s passed cs).rest ≤ length passed + length cs
unfolding discontiguous_match
discontiguous_match-shorter is_key s passed [] = omega arith
discontiguous_match-shorter is_key s passed (c ∷ cs) =
    let grown : length (passed ++ c ∷ []) ≡ length passed + 1 = length-append passed (c ∷ []) in
    let whole : length (passed ++ c ∷ cs) ≡ length passed + suc (length cs) = length-append passed (c ∷ cs) in
    let taken : length (discontiguous_match is_key (s ++ c ∷ []) passed cs).rest ≤ length passed + length cs = discontiguous_match-shorter is_key (s ++ c ∷ []) passed cs in
    let kept : length (discontiguous_match is_key s (passed ++ c ∷ []) cs).rest ≤ length (passed ++ c ∷ []) + length cs = discontiguous_match-shorter is_key s (passed ++ c ∷ []) cs in
    either (is_starter c) _ _ _ (omega arith) (either (not (is_blocked passed c) && is_key (s ++ c ∷ [])) _ _ _ (omega arith) (omega arith))

-- a step leaves less than it was given
pub step_shorter_cons : (is_key : List ℕ → Bool) (x : ℕ) (xs : List ℕ) → length (step is_key (x ∷ xs)).rest ≤ length xs
step_shorter_cons is_key x xs = elim (cases_Bool (nat_eq (longest_match_len is_key (x ∷ xs)) 0)) [
  | inl none ↦ rw none (omega arith)
  | inr some ↦ rw some (
      let n = longest_match_len is_key (x ∷ xs) in
      let h : length (discontiguous_match is_key (take n (x ∷ xs)) [] (drop n (x ∷ xs))).rest ≤ 0 + length (drop n (x ∷ xs)) = discontiguous_match-shorter is_key (take n (x ∷ xs)) [] (drop n (x ∷ xs)) in
      let g : length (drop n (x ∷ xs)) ≡ suc (length xs) - n = length-drop n (x ∷ xs) in
      let k : n ≡ 0 → ⊥ = eqb-false n 0 some in
      omega arith)
]

-- the number of steps that is allowed does not matter once it is enough
enough : (m n : ℕ) (is_key : List ℕ → Bool) (xs : List ℕ) → length xs ≤ m → length xs ≤ n → matches_within m is_key xs ≡ matches_within n is_key xs
unfolding matches_within
enough zero zero is_key xs h g = refl
enough zero (suc n) is_key [] h g = refl
enough zero (suc n) is_key (x ∷ xs) h g = absurd (omega arith)
enough (suc m) zero is_key [] h g = refl
enough (suc m) zero is_key (x ∷ xs) h g = absurd (omega arith)
enough (suc m) (suc n) is_key [] h g = refl
enough (suc m) (suc n) is_key (x ∷ xs) h g =
    let s : length (step is_key (x ∷ xs)).rest ≤ length xs = step_shorter_cons is_key x xs in
    ap (λ ms. (step is_key (x ∷ xs)).matched ∷ ms) (enough m n is_key (step is_key (x ∷ xs)).rest (omega arith) (omega arith))

-- S2: the matches of a text are that at its front and those of what is left
pub matches-step : (is_key : List ℕ → Bool) (x : ℕ) (xs : List ℕ) → matches is_key (x ∷ xs) ≡ (step is_key (x ∷ xs)).matched ∷ matches is_key (step is_key (x ∷ xs)).rest
unfolding matches_within
matches-step is_key x xs = ap (λ ms. (step is_key (x ∷ xs)).matched ∷ ms) (enough (length xs) (length (step is_key (x ∷ xs)).rest) is_key (step is_key (x ∷ xs)).rest (step_shorter_cons is_key x xs) (omega arith))

pub elements_nil : (t : ElementTable) → elements t [] ≡ []
unfolding matches_within
elements_nil t = refl

pub elements_step : (t : ElementTable) (xs : List ℕ) → 0 < length xs → elements t xs ≡ elements_or_implicit t (step (is_key t) xs).matched.code_points ++ elements t (step (is_key t) xs).rest
elements_step t [] h = absurd (omega arith)
elements_step t (x ∷ xs) h = ap (flat_map (λ m. elements_or_implicit t m.code_points)) (matches-step (is_key t) x xs)

pub step_shorter : (is_key : List ℕ → Bool) (xs : List ℕ) → 0 < length xs → length (step is_key xs).rest < length xs
step_shorter is_key [] h = absurd (omega arith)
step_shorter is_key (x ∷ xs) h = let s : length (step is_key (x ∷ xs)).rest ≤ length xs = step_shorter_cons is_key x xs in omega arith

longer : (b : Bool) (x y : Step) (n : ℕ) → n ≤ length x.matched.code_points → n ≤ length y.matched.code_points → n ≤ length (cond b x y).matched.code_points
longer true x y n h g = h
longer false x y n h g = g

extended_longer : (is_key : List ℕ → Bool) (s passed cs : List ℕ) → length s ≤ length (discontiguous_match is_key s passed cs).matched.code_points
unfolding discontiguous_match
extended_longer is_key s passed [] = omega arith
extended_longer is_key s passed (c ∷ cs) =
    let grown : length (s ++ c ∷ []) ≡ length s + 1 = length-append s (c ∷ []) in
    let taken : length (s ++ c ∷ []) ≤ length (discontiguous_match is_key (s ++ c ∷ []) passed cs).matched.code_points = extended_longer is_key (s ++ c ∷ []) passed cs in
    let kept : length s ≤ length (discontiguous_match is_key s (passed ++ c ∷ []) cs).matched.code_points = extended_longer is_key s (passed ++ c ∷ []) cs in
    longer (is_starter c) _ _ _ (omega arith) (longer (not (is_blocked passed c) && is_key (s ++ c ∷ [])) _ _ _ (omega arith) (omega arith))

-- a match has a code point
pub step_some : (is_key : List ℕ → Bool) (xs : List ℕ) → 0 < length xs → 0 < length (step is_key xs).matched.code_points
step_some is_key [] h = absurd (omega arith)
step_some is_key (x ∷ xs) h = elim (cases_Bool (nat_eq (longest_match_len is_key (x ∷ xs)) 0)) [
  | inl none ↦ rw none (omega arith)
  | inr some ↦ rw some (
      let n = longest_match_len is_key (x ∷ xs) in
      let g : length (take n (x ∷ xs)) ≤ length (discontiguous_match is_key (take n (x ∷ xs)) [] (drop n (x ∷ xs))).matched.code_points = extended_longer is_key (take n (x ∷ xs)) [] (drop n (x ∷ xs)) in
      let l : length (take n (x ∷ xs)) ≡ min n (suc (length xs)) = length-take n (x ∷ xs) in
      let k : n ≡ 0 → ⊥ = eqb-false n 0 some in
      omega arith)
]

-- what a step gives, named as the code names it
pub elements_parts : (t : ElementTable) (xs key rest : List ℕ) → 0 < length xs → (step (is_key t) xs).matched.code_points ≡ key → (step (is_key t) xs).rest ≡ rest → elements_or_implicit t key ++ elements t rest ≡ elements t xs
elements_parts t xs key rest h m r = ap₂ (λ k left. elements_or_implicit t k ++ elements t left) (sym m) (sym r) ∙ sym (elements_step t xs h)

pub elements_empty : (t : ElementTable) (xs : List ℕ) → length xs ≡ 0 → elements t xs ≡ []
elements_empty t [] h = elements_nil t
elements_empty t (x ∷ xs) h = absurd (omega arith)
