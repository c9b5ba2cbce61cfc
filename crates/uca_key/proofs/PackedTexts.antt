-- Which tables give a text one packed key.
use Rattle.uca_key.proofs.Common.{arith, ◌≡◌, ℕ, true, ◌==◌, List, [], ◌∷◌, ◌++◌, map, take, refl, ap, ap₂, eq-eqb, or_left, or_right, concat, list_any, nfd, Element, levels, weighted, ElementTable, PrimaryCode, code_points, first_primary, points_of_ranges, primary_of, packed_levels, PackedKeysOutliveTables, common_steps}
use Rattle.uca_key.specs.PackedKey.{packed_key, packed_key_by}
use Rattle.uca_key.specs.PrimaryCode.{code_of}
use Rattle.std.proofs.lemmas.List.Folds.{list_any-append}
use Rattle.uca_model.proofs.AgreeingTables.{elements-same}
use Rattle.uca_key.specs.declared.common_characters.TheConstants.{COMMON_RANGES, FIRST_LETTERS, SINGLE_CHARACTERS}
use Rattle.uca_key.proofs.CodeSteps.{the_code}

-- functions that agree on the numbers of a list
map-same : (f g : ℕ → ℕ) (xs : List ℕ) → ((c : ℕ) → list_any (λ x. x == c) xs ≡ true → f c ≡ g c) → map f xs ≡ map g xs
map-same f g [] h = refl
map-same f g (x ∷ xs) h = ap₂ (λ y ys. y ∷ ys) (h x (or_left (x == x) (list_any (λ y. y == x) xs) (eq-eqb x x refl))) (map-same f g xs (λ c there. h c (or_right (x == c) (list_any (λ y. y == c) xs) there)))

-- the code of two tables, of any characters
same-code : (f g : ℕ → ℕ) (a b c : List ℕ) → ((x : ℕ) → list_any (λ y. y == x) (a ++ b ++ c) ≡ true → f x ≡ g x) → the_code (map f a) (map f b) (map f c) ≡ the_code (map g a) (map g b) (map g c)
same-code f g a b c h = grind (arith, common_steps, list_any-append, or_left, or_right, the_code, map-same)

code-same : (t u : ElementTable) → ((c : ℕ) → list_any (λ x. x == c) code_points ≡ true → primary_of t c ≡ primary_of u c) → code_of t ≡ code_of u
unfolding code_of
code-same t u h = same-code (λ c. primary_of t c) (λ c. primary_of u c) (points_of_ranges COMMON_RANGES) SINGLE_CHARACTERS FIRST_LETTERS h

pub packed_outlive : PackedKeysOutliveTables
unfolding packed_key packed_key_by
packed_outlive changed t u s text agree of_code without =
    let code : code_of t ≡ code_of u = code-same t u (λ c there. ap first_primary (elements-same changed t u agree (nfd (c ∷ [])) (of_code c there))) in
    ap₂ (λ (k : PrimaryCode) (es : List Element). concat (take (levels s.strength) (packed_levels k (weighted s.weighting es) (nfd text)))) code (elements-same changed t u agree (nfd text) without)
