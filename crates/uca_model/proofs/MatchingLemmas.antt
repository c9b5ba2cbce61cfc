-- Keys that tie, and the discontiguous match nonstarter after nonstarter.
use Rattle.std.proofs.Common.{◌≡◌, ℕ, ◌+◌, ◌≤◌, ◌<◌, Bool, true, false, cond, not, ◌&&◌, List, [], ◌∷◌, ◌++◌, length, drop, get_or, refl, sym, ap, ◌∙◌, eqb, eq-eqb, ne_eqb}
use Rattle.std.proofs.Math.ListN.{drop_of_length-le}
use Rattle.std.proofs.lemmas.List.{drop_more}
use Rattle.std.specs.Cmp.{eq_by_cmp_equiv, unsigned_ties}
use Rattle.std.specs.Ordering.{eq_by_cmp, nat_cmp}
use Rattle.std.specs.Cmp.Lexicographic.{nat_list_cmp_total, pointwise, lists_ties}
use Rattle.unicode.specs.CanonicalCombiningClass.{canonical_combining_class as ccc}
use Rattle.unicode_normalization.specs.Order.{is_starter}
use Rattle.uca_model.specs.Match.{took, is_blocked, discontiguous_match}
use Rattle.uca_model.specs.Table.{key_cmp, is_key}

-- `==` of two keys is a tie of their order
pub same_key : (a b : List ℕ) → eq_by_cmp key_cmp b a ≡ pointwise eqb a b
same_key a b = (eq_by_cmp_equiv nat_list_cmp_total).symm b a ∙ sym (lists_ties nat_cmp unsigned_ties a b)

-- one nonstarter of those that are left
pub extended_more : (is_key : List ℕ → Bool) (s passed rest : List ℕ) (i c : ℕ) → i < length rest → c ≡ get_or rest i c
    → discontiguous_match is_key s passed (drop i rest) ≡ cond (is_starter c) (took s (passed ++ drop i rest)) (cond (not (is_blocked passed c) && is_key (s ++ c ∷ [])) (discontiguous_match is_key (s ++ c ∷ []) passed (drop (i + 1) rest)) (discontiguous_match is_key s (passed ++ c ∷ []) (drop (i + 1) rest)))
unfolding discontiguous_match
extended_more is_key s passed rest i c h is =
    let first : drop i rest ≡ c ∷ drop (i + 1) rest = drop_more rest i c h ∙ ap (λ x. x ∷ drop (i + 1) rest) (sym is) in
    rw first refl

pub extended_done : (is_key : List ℕ → Bool) (s passed rest : List ℕ) (i : ℕ) → length rest ≤ i → discontiguous_match is_key s passed (drop i rest) ≡ took s passed
unfolding discontiguous_match
extended_done is_key s passed rest i h = rw (drop_of_length-le rest h) refl

neither : {A : Type 0} (a b : Bool) (x y z : A) → a ≡ false → b ≡ false → cond a x (cond b y z) ≡ z
neither a b x y z e f = rw (e, f) refl

second : {A : Type 0} (a b : Bool) (x y z : A) → a ≡ false → b ≡ true → cond a x (cond b y z) ≡ y
second a b x y z e f = rw (e, f) refl

first : {A : Type 0} (a : Bool) (x y : A) → a ≡ true → cond a x y ≡ x
first a x y e = rw e refl

-- the step of the code at a starter, at a nonstarter that is taken, and at one that is passed over
pub extended_ends : (is_key : List ℕ → Bool) (s passed rest : List ℕ) (i c class : ℕ) → i < length rest → c ≡ get_or rest i c → class ≡ ccc c → class ≡ 0 → discontiguous_match is_key s passed (drop i rest) ≡ took s (passed ++ drop i rest)
extended_ends is_key s passed rest i c class h is e none = extended_more is_key s passed rest i c h is ∙ first _ _ _ (eq-eqb (ccc c) 0 (sym e ∙ none))

pub extended_takes : (is_key : List ℕ → Bool) (s passed rest : List ℕ) (i c class : ℕ) (taken : Bool) → i < length rest → c ≡ get_or rest i c → class ≡ ccc c → (class ≡ 0 → ⊥) → taken ≡ (not (is_blocked passed c) && is_key (s ++ c ∷ [])) → taken ≡ true
    → discontiguous_match is_key s passed (drop i rest) ≡ discontiguous_match is_key (s ++ c ∷ []) passed (drop (i + 1) rest)
extended_takes is_key s passed rest i c class taken h is e mark t holds = extended_more is_key s passed rest i c h is ∙ second _ _ _ _ _ (ne_eqb (ccc c) 0 (λ z. mark (e ∙ z))) (sym t ∙ holds)

pub extended_passes : (is_key : List ℕ → Bool) (s passed rest : List ℕ) (i c class : ℕ) (taken : Bool) → i < length rest → c ≡ get_or rest i c → class ≡ ccc c → (class ≡ 0 → ⊥) → taken ≡ (not (is_blocked passed c) && is_key (s ++ c ∷ [])) → taken ≡ false
    → discontiguous_match is_key s passed (drop i rest) ≡ discontiguous_match is_key s (passed ++ c ∷ []) (drop (i + 1) rest)
extended_passes is_key s passed rest i c class taken h is e mark t fails = extended_more is_key s passed rest i c h is ∙ neither _ _ _ _ _ (ne_eqb (ccc c) 0 (λ z. mark (e ∙ z))) (sym t ∙ fails)
