-- What lies between two lists that differ in their last number alone, by one.
use Rattle.std.proofs.Common.{◌≡◌, ◌⊎◌, ℕ, ◌+◌, ◌<◌, List, [], ◌∷◌, ◌++◌, refl, sym, ap, ap₂, ◌∙◌, arith, inl, inr}
use Rattle.std.proofs.lemmas.Bool.{cases_order}
use Rattle.std.proofs.lemmas.Bool.Decides.{nat_tests}
use Rattle.std.specs.Ordering.{nat_cmp, ordering_then}
use Rattle.std.specs.declared.cmp.Ordering.{Ordering}
use Rattle.std.specs.declared.cmp.Ordering.TheVariants.{Less, Equal, Greater}
use Rattle.std.specs.Cmp.Lexicographic.{slice_cmp}

greater_of : (a b : ℕ) → b < a → nat_cmp a b ≡ Greater
greater_of a b h = grind (arith, nat_tests)

equal_of : (a b : ℕ) → a ≡ b → nat_cmp a b ≡ Equal
equal_of a b h = grind (arith, nat_tests)

then_greater : (o p : Ordering) → o ≡ Greater → ordering_then o p ≡ Less → ⊥
then_greater Less p e h = absurd (cc)
then_greater Equal p e h = absurd (cc)
then_greater Greater p e h = absurd (cc)

then_equal : (o p : Ordering) → o ≡ Equal → ordering_then o p ≡ Less → p ≡ Less
then_equal Less p e h = absurd (cc)
then_equal Equal p e h = h
then_equal Greater p e h = absurd (cc)

none_less : (zs : List ℕ) → slice_cmp nat_cmp zs [] ≡ Less → ⊥
none_less [] e = absurd (cc)
none_less (z ∷ zs) e = absurd (cc)

some_more : (zs : List ℕ) → slice_cmp nat_cmp [] zs ≡ Less → (x : ℕ) × (more : List ℕ) × (zs ≡ x ∷ more)
some_more [] e = absurd (cc)
some_more (z ∷ zs) e = (z, zs, refl)

-- where the last numbers are compared
at_last : (w z : ℕ) (zs : List ℕ) → ordering_then (nat_cmp w z) (slice_cmp nat_cmp [] zs) ≡ Less → ordering_then (nat_cmp z (w + 1)) (slice_cmp nat_cmp zs []) ≡ Less
    → (w ≡ z) ⊎ ((w < z) ⊎ (z < w)) → (x : ℕ) × (more : List ℕ) × (z ∷ zs ≡ w ∷ x ∷ more)
at_last w z zs a b (inl is) = let m = some_more zs (then_equal (nat_cmp w z) _ (equal_of w z is) a) in (m.0, m.1, ap₂ (λ h t. h ∷ t) (sym is) m.2)
at_last w z zs a b (inr (inl h)) = absurd (elim (cases_order z (w + 1)) [
  | inl e ↦ none_less zs (then_equal (nat_cmp z (w + 1)) _ (equal_of z (w + 1) e) b)
  | inr (inl l) ↦ absurd (omega arith)
  | inr (inr g) ↦ then_greater (nat_cmp z (w + 1)) _ (greater_of z (w + 1) g) b
])
at_last w z zs a b (inr (inr h)) = absurd (then_greater (nat_cmp w z) _ (greater_of w z h) a)

at_first : (c z : ℕ) (zs p : List ℕ) (w : ℕ) (A B : Ordering) → ordering_then (nat_cmp c z) A ≡ Less → ordering_then (nat_cmp z c) B ≡ Less → (c ≡ z) ⊎ ((c < z) ⊎ (z < c))
    → (A ≡ Less → B ≡ Less → (x : ℕ) × (more : List ℕ) × (zs ≡ (p ++ w ∷ []) ++ x ∷ more)) → (x : ℕ) × (more : List ℕ) × (z ∷ zs ≡ ((c ∷ p) ++ w ∷ []) ++ x ∷ more)
at_first c z zs p w A B a b (inl is) more = let m = more (then_equal (nat_cmp c z) A (equal_of c z is) a) (then_equal (nat_cmp z c) B (equal_of z c (sym is)) b) in (m.0, m.1, ap₂ (λ h t. h ∷ t) (sym is) m.2)
at_first c z zs p w A B a b (inr (inl h)) more = absurd (then_greater (nat_cmp z c) B (greater_of z c h) b)
at_first c z zs p w A B a b (inr (inr h)) more = absurd (then_greater (nat_cmp c z) A (greater_of c z h) a)

pub between_is_longer : (p z : List ℕ) (w : ℕ) → slice_cmp nat_cmp (p ++ w ∷ []) z ≡ Less → slice_cmp nat_cmp z (p ++ (w + 1) ∷ []) ≡ Less → (x : ℕ) × (more : List ℕ) × (z ≡ (p ++ w ∷ []) ++ x ∷ more)
between_is_longer [] [] w a b = absurd (cc)
between_is_longer [] (z ∷ zs) w a b = at_last w z zs a b (cases_order w z)
between_is_longer (c ∷ p) [] w a b = absurd (cc)
between_is_longer (c ∷ p) (z ∷ zs) w a b = at_first c z zs p w _ _ a b (cases_order c z) (λ f g. between_is_longer p zs w f g)

-- the first of the two is less
pub last_less : (p : List ℕ) (w : ℕ) → slice_cmp nat_cmp (p ++ w ∷ []) (p ++ (w + 1) ∷ []) ≡ Less
last_less [] w = grind (arith, nat_tests)
last_less (x ∷ p) w = ap (λ o. ordering_then o (slice_cmp nat_cmp (p ++ w ∷ []) (p ++ (w + 1) ∷ []))) (equal_of x x refl) ∙ last_less p w
