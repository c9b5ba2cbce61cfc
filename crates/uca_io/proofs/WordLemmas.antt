-- How bytes are cut into words.
use Rattle.std.proofs.Common.{◌≡◌, ℕ, suc, ◌+◌, ◌<◌, ◌≤◌, ◌==◌, Bool, true, false, not, List, [], ◌∷◌, length, take, drop, filter, get_or, refl, sym, ap, ap₂, subst, ◌∙◌, arith, drop-cons, add-one, inl, inr, ne_eqb}
use Rattle.std.proofs.lemmas.Bool.{cond-true, cond-false, cases_Bool}
use Rattle.std.proofs.lemmas.List.{length-take, take_all, drop_all}
use Rattle.std.proofs.lemmas.List.Sums.{fails_before_first, passes_at_first}
use Rattle.std.proofs.lemmas.List.Splits.{slice_split_none, slice_split_first, slice_split-cons_yes}
use Rattle.std.proofs.lemmas.Bool.Decides.{nat_tests}
use Rattle.std.specs.List.{position_or_len, slice_split}
use Rattle.std.specs.Prelude.{nat_lt}
use Rattle.uca_io.specs.Words.{is_blank, skip_blanks, words}

-- what begins with no blank
pub skip-other : (b : ℕ) (bytes : List ℕ) → is_blank b ≡ false → skip_blanks (b ∷ bytes) ≡ b ∷ bytes
skip-other b bytes e = cond-false _ _ _ e

-- where no byte passes a test, there is one part
pub split_none : (p : ℕ → Bool) (xs : List ℕ) → length xs ≤ position_or_len p xs → slice_split p xs ≡ xs ∷ []
split_none p xs e = slice_split_none p xs (λ k d low. fails_before_first p xs k d (omega arith))

-- the first part ends before the first byte that passes
pub split_first : (p : ℕ → Bool) (xs : List ℕ) (n : ℕ) → n ≡ position_or_len p xs → n < length xs → slice_split p xs ≡ take n xs ∷ slice_split p (drop (n + 1) xs)
split_first p xs n at low = subst (λ m. slice_split p xs ≡ take m xs ∷ slice_split p (drop (m + 1) xs)) (sym at) (slice_split_first p xs 0 (omega arith))

-- some parts, without the empty ones
abbrev kept : List (List ℕ) → List (List ℕ)
kept parts = filter (λ word. not (length word == 0)) parts

words-blank : (b : ℕ) (bs : List ℕ) → is_blank b ≡ true → words (b ∷ bs) ≡ words bs
words-blank b bs e = ap kept (slice_split-cons_yes is_blank b bs e)

skip-blank : (b : ℕ) (bs : List ℕ) → is_blank b ≡ true → skip_blanks (b ∷ bs) ≡ skip_blanks bs
skip-blank b bs e = cond-true _ _ _ e

-- blanks at the front change no words
pub words-skip : (xs : List ℕ) → words (skip_blanks xs) ≡ words xs
words-skip [] = refl
words-skip (b ∷ bs) =
    elim (cases_Bool (is_blank b)) [
      | inl e ↦ ap words (skip-blank b bs e) ∙ words-skip bs ∙ sym (words-blank b bs e)
      | inr e ↦ ap words (skip-other b bs e)
    ]

other-first : (b : ℕ) (bs : List ℕ) → is_blank b ≡ false → 0 < position_or_len is_blank (b ∷ bs)
other-first b bs e =
    let one : position_or_len is_blank (b ∷ bs) ≡ 1 + position_or_len is_blank bs = cond-true _ _ _ (ap not e) in
    omega arith

-- what begins after blanks begins with no blank
pub skip-first : (xs : List ℕ) → 0 < length (skip_blanks xs) → 0 < position_or_len is_blank (skip_blanks xs)
skip-first [] some = absurd (omega arith)
skip-first (b ∷ bs) some =
    elim (cases_Bool (is_blank b)) [
      | inl e ↦ subst (λ xs. 0 < position_or_len is_blank xs) (sym (skip-blank b bs e)) (skip-first bs (subst (λ xs. 0 < length xs) (skip-blank b bs e) some))
      | inr e ↦ subst (λ xs. 0 < position_or_len is_blank xs) (sym (skip-other b bs e)) (other-first b bs e)
    ]

kept-some : (word : List ℕ) (parts : List (List ℕ)) → 0 < length word → kept (word ∷ parts) ≡ word ∷ kept parts
kept-some [] parts some = absurd (omega arith)
kept-some (b ∷ word) parts some = cond-true _ _ _ (ap not (ne_eqb (length (b ∷ word)) 0 (λ same. omega arith)))

-- the first word ends before the first blank, or at the end
pub words-first : (xs : List ℕ) (n : ℕ) → n ≡ position_or_len is_blank xs → n ≤ length xs → 0 < n → words xs ≡ take n xs ∷ words (drop n xs)
words-first xs n at within some =
    let long : 0 < length (take n xs) = omega (arith, length-take n xs) in
    elim (cases_Bool (nat_lt n (length xs))) [
      | inl e ↦
          let low : n < length xs = grind (arith, nat_tests) in
          let cut : slice_split is_blank xs ≡ take n xs ∷ slice_split is_blank (drop (n + 1) xs) = split_first is_blank xs n at low in
          let stop : is_blank (get_or xs n 0) ≡ true = subst (λ m. is_blank (get_or xs m 0) ≡ true) (sym at) (passes_at_first is_blank xs 0 (omega arith)) in
          let rest : drop n xs ≡ get_or xs n 0 ∷ drop (n + 1) xs = rw add-one (drop-cons xs n 0 low) in
          let later : words (drop n xs) ≡ words (drop (n + 1) xs) = ap words rest ∙ words-blank (get_or xs n 0) (drop (n + 1) xs) stop in
          ap kept cut ∙ kept-some (take n xs) (slice_split is_blank (drop (n + 1) xs)) long ∙ ap (λ ws. take n xs ∷ ws) (sym later)
      | inr e ↦
          let high : length xs ≤ n = grind (arith, nat_tests) in
          let whole : take n xs ≡ xs = take_all n xs high in
          let none : drop n xs ≡ [] = drop_all n xs high in
          ap kept (split_none is_blank xs (omega arith)) ∙ kept-some xs [] (omega arith) ∙ ap₂ (λ (w : List ℕ) (r : List ℕ). w ∷ words r) (sym whole) (sym none)
    ]

pub length-skip : (xs : List ℕ) → length (skip_blanks xs) ≤ length xs
length-skip [] = omega arith
length-skip (b ∷ bs) =
    elim (cases_Bool (is_blank b)) [
      | inl e ↦ subst (λ (ys : List ℕ). length ys ≤ suc (length bs)) (sym (skip-blank b bs e)) (let h : length (skip_blanks bs) ≤ length bs = length-skip bs in omega arith)
      | inr e ↦ subst (λ (ys : List ℕ). length ys ≤ suc (length bs)) (sym (skip-other b bs e)) (omega arith)
    ]
