-- What a match that was taken out of a window is.
use Rattle.std.proofs.Common.{◌≡◌, ℕ, ◌<◌, List, [], ◌∷◌, length, take, get_or, sym, ap, arith, take-take, eq-eqb, ne_eqb, ◌==◌}
use Rattle.std.specs.Prelude.{if◌then◌else◌}
use Rattle.std.proofs.lemmas.Bool.{cond-true, cond-false}

pub first_point : (xs : List ℕ) (x : ℕ) → 0 < length xs → x ≡ get_or xs 0 x → x ∷ [] ≡ take 1 xs
first_point [] x some is = absurd (omega arith)
first_point (y ∷ xs) x some is = ap (λ z. z ∷ []) is

pub longest-in_points : (xs : List ℕ) (n : ℕ) → 0 < n → take 1 xs ≡ take 1 (take n xs)
longest-in_points xs n some = sym (take-take 1 n xs (omega arith))

pub points-alone : (first : ℕ) (path : List ℕ) → length path ≡ 0 → (if length path == 0 then first ∷ [] else path) ≡ first ∷ []
points-alone first path none = cond-true _ _ _ (eq-eqb (length path) 0 none)

pub points-key : (first : ℕ) (path : List ℕ) → 0 < length path → (if length path == 0 then first ∷ [] else path) ≡ path
points-key first path some = cond-false _ _ _ (ne_eqb (length path) 0 (λ none. absurd (omega arith)))
