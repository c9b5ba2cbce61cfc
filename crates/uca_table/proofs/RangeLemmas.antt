-- Ranges: one that is put among the others, those in a map by their last code points, and what a search finds.
use Rattle.uca_table.proofs.Common.{◌≡◌, ℕ, ◌-◌, ◌≤◌, ◌<◌, ◌^◌, min, max, false, ◌==◌, nat_lt, List, [], ◌∷◌, fold, map, filter, sym, ◌∙◌, arith, inl, inr, cases_Bool, ltb-true, ltb-false, or_parts, false≢true, eq-eqb, IsScalar, AllByRecursion, list_any, Range, IsRange, AreDisjoint, AllDisjoint, AreRanges, lowest_first, shares, highest_last, spans_too_far, is_bad_range, put_range, AreByFirst, common_steps, Bool, cond, nat_le, Option, Some, None, refl, ap, ap₂, nat_tests, insert_entry, is_at, Less, Greater, remove_entry, values_of, nat_cmp, AreByLast, AreExtents, extent_of, extent_with, suc, zero, true, length, get_or, All-from_recursion, find_at, slice_get, position_or_len, range_of, begins_by}
use Rattle.uca_model.proofs.ImplicitLemmas.{weaker}
use Rattle.std.specs.declared.ops.Bound.TheVariants.{Included, Unbounded}
use Rattle.std.specs.BTreeMap.Range.{entries_between}
use Rattle.uca_table.specs.declared.ranges.Extent.{Extent}
use Rattle.std.proofs.lemmas.List.Sums.{position_or_len_is}
use Rattle.std.specs.List.{find}
use Rattle.std.specs.List.Sorted.{IsPartitionedBy, IsPartitionPoint}

-- what holds of the range and of the others
all-put : (P : Range → Type 0) (r : Range) (rs : List Range) → P r → AllByRecursion P rs → AllByRecursion P (put_range r rs)
all-put P r [] new all = (new, tt)
all-put P r (s ∷ ss) new all = grind (arith, common_steps, all-put P r ss new all.1)

-- what follows from two facts of each range
from_both : (P Q R : Range → Type 0) (rs : List Range) → ((s : Range) → P s → Q s → R s) → AllByRecursion P rs → AllByRecursion Q rs → AllByRecursion R rs
from_both P Q R [] f p q = tt
from_both P Q R (s ∷ ss) f p q = (f s p.0 q.0, from_both P Q R ss f p.1 q.1)

-- a range that shares no code point with any
pub all-apart : (r : Range) (rs : List Range) → list_any (shares r) rs ≡ false → AllByRecursion (AreDisjoint r) rs
all-apart r [] h = tt
all-apart r (s ∷ ss) h = let parts = or_parts (shares r s) (list_any (shares r) ss) h in (apart r s parts.0, all-apart r ss parts.1) where
  apart : (r s : Range) → shares r s ≡ false → AreDisjoint r s
  apart r s h = grind (arith, common_steps, cases_Bool)

-- that holds either way round
flip : (r s : Range) → AreDisjoint r s → AreDisjoint s r
flip r s (inl before) = inr before
flip r s (inr behind) = inl behind

-- the ranges stay apart
disjoint-put : (r : Range) (rs : List Range) → AllByRecursion (AreDisjoint r) rs → AllDisjoint rs → AllDisjoint (put_range r rs)
disjoint-put r [] new old = (tt, tt)
disjoint-put r (s ∷ ss) new old = grind (arith, common_steps, all-put, flip, disjoint-put r ss new.1 old.1)

-- the ends of the ranges with a base are all within the last of them
within_last : (R : ℕ → ℕ → Type 0) (f : ℕ → ℕ → ℕ) (end : Range → ℕ) → ((x y z : ℕ) → R (f x y) z → R x z × R y z)
    → (rs : List Range) (base start top : ℕ) → R (fold f start (map end (filter (λ r. r.base == base) rs))) top → R start top × AllByRecursion (λ s. s.base ≡ base → R (end s) top) rs
within_last R f end both [] base start top h = (h, tt)
within_last R f end both (s ∷ rs) base start top h = elim (cases_Bool (s.base == base)) [
  | inl holds ↦
      let more = within_last R f end both rs base (f start (end s)) top (rw holds at h) in
      let own = both start (end s) top more.0 in
      (own.0, ((λ _. own.1), more.1))
  | inr fails ↦
      let more = within_last R f end both rs base start top (rw fails at h) in
      (more.0, ((λ same. absurd (false≢true (sym fails ∙ eq-eqb _ _ same))), more.1))
]

-- the offsets fit, of each range over each of its base
abbrev FitsOver : Range → Range → Type 0
FitsOver r s = s.base ≡ r.base → r.last - s.first < 0x8000

-- all offsets still fit
spans-put : (r : Range) (rs : List Range) → spans_too_far rs r ≡ false → AllByRecursion (λ s. AllByRecursion (FitsOver s) rs) rs → AllByRecursion (λ s. AllByRecursion (FitsOver s) (put_range r rs)) (put_range r rs)
spans-put r rs near old =
    let high = highest_last rs r.base r.last in let low = lowest_first rs r.base r.first in
    let span : high - low ≤ 0x7FFF = ltb-false 0x7FFF (high - low) near in
    let top = within_last (λ x y. x ≤ y) max (λ s. s.last) (λ x y z h. (omega arith, omega arith)) rs r.base r.last high (omega arith) in
    let bottom = within_last (λ x y. y ≤ x) min (λ s. s.first) (λ x y z h. (omega arith, omega arith)) rs r.base r.first low (omega arith) in
    all-put (λ s. AllByRecursion (FitsOver s) (put_range r rs)) r rs
    (all-put (FitsOver r) r rs (λ _. omega (arith, top.0, bottom.0)) (weaker (λ s. s.base ≡ r.base → low ≤ s.first) (FitsOver r) rs (λ s h same. omega (arith, h same, top.0)) bottom.1))
    (from_both (λ s. s.base ≡ r.base → s.last ≤ high) (λ s. AllByRecursion (FitsOver s) rs) (λ s. AllByRecursion (FitsOver s) (put_range r rs)) rs (λ s h fits. all-put (FitsOver s) r rs (λ same. omega (arith, h (sym same), bottom.0)) fits) top.1 old)

-- the first code points still rise
by_first-put : (r : Range) (rs : List Range) → r.first ≤ r.last → AllByRecursion IsRange rs → AllByRecursion (AreDisjoint r) rs → AreByFirst rs → AreByFirst (put_range r rs)
by_first-put r [] ordered each apart old = (tt, tt)
by_first-put r (s ∷ ss) ordered each apart old = elim (cases_Bool (nat_lt r.first s.first)) [
  | inl below ↦
      let h : r.first < s.first = ltb-true r.first s.first below in
      rw below ((h, weaker (λ t. s.first < t.first) (λ t. r.first < t.first) ss (λ t g. omega arith) old.0), old)
  | inr above ↦
      let h : s.first < r.first = omega (arith, ltb-false r.first s.first above, apart.0, each.0.ordered) in
      rw above (all-put (λ t. s.first < t.first) r ss h old.0, by_first-put r ss ordered each.1 apart.1 old.1)
]

-- a range that is not bad is compatible with the others
pub ranges-put : (r : Range) (rs : List Range) → IsScalar r.first → IsScalar r.last → r.base < 2 ^ 16 → is_bad_range rs r ≡ false → AreRanges rs → AreByFirst rs → AreRanges (put_range r rs) × AreByFirst (put_range r rs)
ranges-put r rs first last base fine old by_first = grind (arith, common_steps, or_parts, ltb-false, all-put, all-apart, disjoint-put, spans-put, by_first-put)

-- ---- the extents

-- two ranges may come either way round
extent_swap : (r s : Range) (o : Option Extent) → extent_with r (Some (extent_with s o)) ≡ extent_with s (Some (extent_with r o))
extent_swap r s None = ap₂ (λ low high. record { lowest = low; highest = high }) (omega arith) (omega arith)
extent_swap r s (Some x) = ap₂ (λ low high. record { lowest = low; highest = high }) (omega arith) (omega arith)

-- so it is one whether a range is put after others or comes first
extent_of-put : (r : Range) (rs : List Range) (base : ℕ) → extent_of (put_range r rs) base ≡ extent_of (r ∷ rs) base
extent_of-put r [] base = refl
extent_of-put r (s ∷ ss) base = grind (arith, common_steps, extent_swap, extent_of-put r ss base)

-- the extents with one range more
AreExtents-put : (old new : ℕ → Option Extent) (r : Range) (rs : List Range) → AreExtents old rs → ((q : ℕ) → new q ≡ cond (is_at (nat_cmp r.base) q) (Some (extent_with r (old r.base))) (old q)) → AreExtents new (put_range r rs)
AreExtents-put old new r rs extents updated = record { each = λ base. grind (arith, common_steps, updated base, extents.each base, extents.each r.base, extent_of-put r rs base) }

-- the ends of a range and of the others with its base
pub extent_is : (rs : List Range) (r : Range) → (lowest_first rs r.base r.first ≡ (extent_with r (extent_of rs r.base)).lowest) × (highest_last rs r.base r.last ≡ (extent_with r (extent_of rs r.base)).highest)
extent_is [] r = (refl, refl)
extent_is (s ∷ rs) r = grind (arith, common_steps, extent_is rs r, extent_is rs (record { first = min r.first s.first; last = max r.last s.last; base = r.base }))

pub ruleset extents = (common_steps, extent_is)

-- ---- the ranges

-- where one range lies before or after another, both of its ends decide
order_by_last : (r s : Range) → r.first ≤ r.last → s.first ≤ s.last → AreDisjoint r s → nat_cmp r.last s.last ≡ cond (nat_lt r.first s.first) Less Greater
order_by_last r s ordered other (inl before) = grind (arith, nat_tests)
order_by_last r s ordered other (inr behind) = grind (arith, nat_tests)

-- a range inserted at its last code point is put by its first one, and may be taken back
abbrev pub IsInserted : List (ℕ × Range) → Range → Type 0
IsInserted es r = (values_of (insert_entry nat_cmp es r.last r) ≡ put_range r (values_of es)) × (remove_entry (is_at (nat_cmp r.last)) (insert_entry nat_cmp es r.last r) ≡ es) × AreByLast (insert_entry nat_cmp es r.last r)

inserted_apart : (es : List (ℕ × Range)) (r : Range) → r.first ≤ r.last → AreByLast es → AllByRecursion IsRange (values_of es) → AllByRecursion (AreDisjoint r) (values_of es) → IsInserted es r
inserted_apart [] r ordered by_last each apart = grind (arith, common_steps)
inserted_apart (e ∷ es) r ordered by_last each apart = grind (arith, common_steps, order_by_last, each.0, inserted_apart es r ordered by_last.1 each.1 apart.1)

-- so is one that isn't bad
pub inserted : (es : List (ℕ × Range)) (r : Range) (rs : List Range) → values_of es ≡ rs → AreByLast es → AreRanges rs → is_bad_range rs r ≡ false → IsInserted es r
inserted es r rs same by_last ranges fine =
    let parts : (r.first ≤ r.last) × (list_any (shares r) rs ≡ false) = grind (arith, common_steps, or_parts, ltb-false) in
    inserted_apart es r parts.0 by_last (rw same ranges.each) (rw same (all-apart r rs parts.1))

-- the extents go with it
pub both_put : (es new : List (ℕ × Range)) (old_at new_at : ℕ → Option Extent) (r : Range) (x : Extent) → IsInserted es r → AreExtents old_at (values_of es) → new ≡ insert_entry nat_cmp es r.last r → x ≡ extent_with r (old_at r.base)
    → ((q : ℕ) → new_at q ≡ cond (is_at (nat_cmp r.base) q) (Some x) (old_at q)) → AreByLast new × AreExtents new_at (values_of new)
both_put es new old_at new_at r x is extents grown wide updated = rw (grown, is.0) (is.2, AreExtents-put old_at new_at r (values_of es) extents (λ q. updated q ∙ ap (λ y. cond (is_at (nat_cmp r.base) q) (Some y) (old_at q)) wide))

-- ranges that begin above a range share nothing with it
none_shares : (r : Range) (low : ℕ) (rs : List Range) → r.last < low → AllByRecursion (λ s. low < s.first) rs → list_any (shares r) rs ≡ false
none_shares r low [] h above = refl
none_shares r low (s ∷ ss) h above = grind (arith, nat_tests, above.0, none_shares r low ss h above.1)

-- whether the first of some ranges begins within a range
abbrev pub first_begins : Range → List (ℕ × Range) → Bool
first_begins r [] = false
first_begins r (e ∷ es) = nat_le e.1.first r.last

-- the first range that doesn't end below a range decides whether it shares a code point with any
pub shares_first : (es : List (ℕ × Range)) (r : Range) → AreByLast es → AreByFirst (values_of es) → list_any (shares r) (values_of es) ≡ first_begins r (entries_between nat_cmp (Included r.first) Unbounded es)
shares_first [] r by_last rising = refl
shares_first (e ∷ es) r by_last rising = grind (arith, common_steps, nat_tests, by_last.0, none_shares r e.1.first (values_of es), rising.0, shares_first es r by_last.1 rising.1)

-- each range ends below those that begin above it
ends_below : (r s : Range) → IsRange s → AreDisjoint r s → r.first < s.first → r.last < s.first
ends_below r s is (inl before) rises = before
ends_below r s is (inr behind) rises = absurd (omega (arith, is.ordered))

apart_at : (rs : List Range) (i j : ℕ) (d : Range) → AllByRecursion IsRange rs → AllDisjoint rs → AreByFirst rs → i < j → j < length rs → (get_or rs i d).last < (get_or rs j d).first
apart_at [] i j d each apart rising before within = absurd (omega arith)
apart_at (r ∷ rs) i zero d each apart rising before within = absurd (omega arith)
apart_at (r ∷ rs) zero (suc j) d each apart rising before within =
    ends_below r (get_or rs j d) (All-from_recursion IsRange rs each.1 j d (omega arith)) (All-from_recursion (AreDisjoint r) rs apart.0 j d (omega arith)) (All-from_recursion (λ s. r.first < s.first) rs rising.0 j d (omega arith))
apart_at (r ∷ rs) (suc i) (suc j) d each apart rising before within = apart_at rs i j d each.1 apart.1 rising.1 (omega arith) (omega arith)

-- first the ranges that end below a code point
pub parted_by_last : (rs : List Range) (c : ℕ) → AreRanges rs → AreByFirst rs → IsPartitionedBy (λ r. nat_lt r.last c) rs
parted_by_last rs c ranges rising i j d before within below = grind (arith, common_steps, nat_tests, apart_at rs i j d, All-from_recursion IsRange rs ranges.each j d)

-- a code point lies in no range that begins above it
none_above : (c low : ℕ) (rs : List Range) → c < low → AllByRecursion (λ s. low < s.first) rs → range_of rs c ≡ None
none_above c low [] h above = refl
none_above c low (s ∷ ss) h above = grind (arith, nat_tests, above.0, none_above c low ss h above.1)

-- the first range that doesn't end below a code point is the one in which it lies, if it lies in any
first_reaching : (rs : List Range) (c : ℕ) → AreByFirst rs → range_of rs c ≡ begins_by c (find (λ r. nat_le c r.last) rs)
first_reaching [] c rising = refl
first_reaching (r ∷ rs) c rising = grind (arith, common_steps, nat_tests, none_above c r.first rs, rising.0, first_reaching rs c rising.1)

-- it comes right after those that end below the code point
pub found_there : (rs : List Range) (c i : ℕ) → AreByFirst rs → i ≤ length rs → IsPartitionPoint (λ r. nat_lt r.last c ≡ true) (λ r. nat_lt r.last c ≡ false) rs i → range_of rs c ≡ begins_by c (slice_get rs i)
found_there rs c i rising upto parted =
    let d : Range = record { first = 0; last = 0; base = 0 } in
    let at : position_or_len (λ r. nat_le c r.last) rs ≡ i = position_or_len_is _ rs i d upto (λ k before. grind (arith, nat_tests, parted.0 k d (omega arith) before)) (λ within. grind (arith, nat_tests, parted.1 i d (omega arith) within)) in
    first_reaching rs c rising ∙ ap (begins_by c) (find_at _ rs ∙ ap (slice_get rs) at)
