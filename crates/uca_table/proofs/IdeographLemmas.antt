-- A range of ideographs that is put among the others.
use Rattle.uca_table.proofs.Common.{◌≡◌, ℕ, ◌≤◌, ◌<◌, false, nat_lt, List, [], ◌∷◌, ◌++◌, take, drop, arith, inl, inr, cases_Bool, ltb-false, or_parts, nat_tests, IsScalar, AllByRecursion, list_any, Ideographs, IsIdeographs, AreApart, AreIdeographs, common_steps}
use Rattle.uca_model.specs.AddedIdeographs.{are_bad_ideographs, put_ideographs, shares}

-- the range goes after the first i
abbrev pub GoesAfter : Ideographs → List Ideographs → ℕ → Type 0
GoesAfter r rs i = put_ideographs r rs ≡ take i rs ++ put_ideographs r (drop i rs)

-- what holds of the range and of the others
all-put : (P : Ideographs → Type 0) (r : Ideographs) (rs : List Ideographs) → P r → AllByRecursion P rs → AllByRecursion P (put_ideographs r rs)
all-put P r [] new all = (new, tt)
all-put P r (s ∷ ss) new all = grind (arith, common_steps, all-put P r ss new all.1)

-- what begins above the end of another range begins above all that ends below that
all-above : (low : ℕ) (s : Ideographs) (rs : List Ideographs) → low < s.first → s.first ≤ s.last → AllByRecursion (λ t. s.last < t.first) rs → AllByRecursion (λ t. low < t.first) rs
all-above low s [] h other all = tt
all-above low s (t ∷ ts) h other all = (omega (arith, all.0), all-above low s ts h other all.1)

-- ranges that share no code point are apart
apart-put : (r : Ideographs) (rs : List Ideographs) → r.first ≤ r.last → list_any (shares r) rs ≡ false → AllByRecursion IsIdeographs rs → AreApart rs → AreApart (put_ideographs r rs)
apart-put r [] ordered free each old = (tt, tt)
apart-put r (s ∷ ss) ordered free each old =
    let parts = or_parts (shares r s) (list_any (shares r) ss) free in
    elim (cases_Bool (nat_lt r.first s.first)) [
      | inl below ↦
          let before : r.last < s.first = grind (arith, nat_tests, parts.0, below, each.0.ordered) in
          rw below (((before, all-above r.last s ss before each.0.ordered old.0), old))
      | inr above ↦
          let behind : s.last < r.first = grind (arith, nat_tests, parts.0, above, ordered) in
          rw above ((all-put (λ t. s.last < t.first) r ss behind old.0, apart-put r ss ordered parts.1 each.1 old.1))
    ]

-- a range that is not bad is compatible with the others
pub AreIdeographs-put : (r : Ideographs) (rs : List Ideographs) → IsScalar r.first → IsScalar r.last → are_bad_ideographs rs r ≡ false → AreIdeographs rs → AreIdeographs (put_ideographs r rs)
AreIdeographs-put r rs first last fine old = grind (arith, common_steps, or_parts, ltb-false, all-put, apart-put)

pub ruleset putting = (common_steps, AreIdeographs-put)
