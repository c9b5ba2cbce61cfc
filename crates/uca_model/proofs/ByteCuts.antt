-- Where bytes are cut at the first one of a kind, and which blanks are at their ends.
use Rattle.std.proofs.Common.{◌≡◌, ℕ, suc, ◌+◌, ◌-◌, Bool, true, false, not, List, [], ◌∷◌, ◌++◌, length, take, drop, get_or, refl, ap, ◌∙◌, arith}
use Rattle.std.proofs.Math.Seq.{take-append_seam, drop-append_seam, drop-append-add}
use Rattle.std.proofs.lemmas.Bool.{cond-true, cond-false}
use Rattle.std.proofs.lemmas.List.{take_all}
use Rattle.std.proofs.lemmas.List.Sums.{suffix_len_is}
use Rattle.std.specs.List.{AllByRecursion, position_or_len, before_first, after_first, suffix_len}
use Rattle.uca_model.specs.TableText.{is_blank, trim_end, from_first}

module _ (p : ℕ → Bool) where
  pub none-append : (xs ys : List ℕ) → AllByRecursion (λ b. p b ≡ false) xs → AllByRecursion (λ b. p b ≡ false) ys → AllByRecursion (λ b. p b ≡ false) (xs ++ ys)
  none-append [] ys f g = g
  none-append (x ∷ xs) ys f g = (f.0, none-append xs ys f.1 g)

  pub position_at : (xs : List ℕ) (y : ℕ) (ys : List ℕ) → AllByRecursion (λ b. p b ≡ false) xs → p y ≡ true → position_or_len p (xs ++ y ∷ ys) ≡ length xs
  position_at [] y ys none is = cond-false _ _ _ (ap not is)
  position_at (x ∷ xs) y ys none is =
      let later : position_or_len p (xs ++ y ∷ ys) ≡ length xs = position_at xs y ys none.1 is in
      cond-true _ _ _ (ap not none.0) ∙ omega (arith, later)

  position_none : (xs : List ℕ) → AllByRecursion (λ b. p b ≡ false) xs → position_or_len p xs ≡ length xs
  position_none [] none = refl
  position_none (x ∷ xs) none =
      let later : position_or_len p xs ≡ length xs = position_none xs none.1 in
      cond-true _ _ _ (ap not none.0) ∙ omega (arith, later)

  pub before_at : (xs : List ℕ) (y : ℕ) (ys : List ℕ) → AllByRecursion (λ b. p b ≡ false) xs → p y ≡ true → before_first p (xs ++ y ∷ ys) ≡ xs
  before_at xs y ys none is = ap (λ (n : ℕ). take n (xs ++ y ∷ ys)) (position_at xs y ys none is) ∙ take-append_seam xs (y ∷ ys)

  pub from_at : (xs : List ℕ) (y : ℕ) (ys : List ℕ) → AllByRecursion (λ b. p b ≡ false) xs → p y ≡ true → from_first p (xs ++ y ∷ ys) ≡ y ∷ ys
  from_at xs y ys none is = ap (λ (n : ℕ). drop n (xs ++ y ∷ ys)) (position_at xs y ys none is) ∙ drop-append_seam xs (y ∷ ys)

  pub after_at : (xs : List ℕ) (y : ℕ) (ys : List ℕ) → AllByRecursion (λ b. p b ≡ false) xs → p y ≡ true → after_first p (xs ++ y ∷ ys) ≡ ys
  after_at xs y ys none is = ap (λ (n : ℕ). drop (n + 1) (xs ++ y ∷ ys)) (position_at xs y ys none is) ∙ drop-append-add xs (y ∷ ys) 1

  pub before_none : (xs : List ℕ) → AllByRecursion (λ b. p b ≡ false) xs → before_first p xs ≡ xs
  before_none xs none = ap (λ (n : ℕ). take n xs) (position_none xs none) ∙ take_all (length xs) xs (omega arith)

-- the last byte is no blank
abbrev pub EndsVisible : List ℕ → Type 0
EndsVisible [] = ⊥
EndsVisible (b ∷ []) = is_blank b ≡ false
EndsVisible (b ∷ c ∷ bytes) = EndsVisible (c ∷ bytes)

pub ends-append : (xs ys : List ℕ) → EndsVisible ys → EndsVisible (xs ++ ys)
ends-append [] ys h = h
ends-append (x ∷ []) [] h = absurd h
ends-append (x ∷ []) (y ∷ ys) h = h
ends-append (x ∷ z ∷ xs) ys h = ends-append (z ∷ xs) ys h

last_visible : (xs : List ℕ) → EndsVisible xs → is_blank (get_or xs (length xs - 1) 0) ≡ false
last_visible [] h = absurd h
last_visible (b ∷ []) h = h
last_visible (b ∷ c ∷ xs) h =
    let last : suc (suc (length xs)) - 1 ≡ suc (suc (length xs) - 1) = omega arith in
    ap (λ (n : ℕ). is_blank (get_or (b ∷ c ∷ xs) n 0)) last ∙ last_visible (c ∷ xs) h

pub trim_end-visible : (xs : List ℕ) → EndsVisible xs → trim_end xs ≡ xs
trim_end-visible xs h =
    let none : suffix_len is_blank xs ≡ length xs - length xs = suffix_len_is is_blank xs (length xs) 0 (omega arith) (λ k high low. absurd (omega arith)) (λ some. last_visible xs h) in
    take_all (length xs - suffix_len is_blank xs) xs (omega (arith, none))
