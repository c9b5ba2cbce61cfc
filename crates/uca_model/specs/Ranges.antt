-- Which ranges of implicit weights one table can have, and in which order.
use Rattle.std.specs.Prelude.{ℕ, ◌-◌, ◌<◌, max, Bool, ◌&&◌, ◌||◌, ◌==◌, nat_le, nat_lt, List, [], ◌∷◌, fold, map, filter, if◌then◌else◌}
use Rattle.std.specs.List.{AllByRecursion, list_any}
use Rattle.uca_weights.specs.declared.range.Range.{Range}
use Rattle.uca_model.specs.ImplicitWeights.{lowest_first}

-- some code point lies in both ranges
abbrev pub shares : Range → Range → Bool
shares r s = nat_le r.first s.last && nat_le s.first r.last

-- the highest of a code point and of the last code points of the ranges with a base
abbrev pub highest_last : List Range → ℕ → ℕ → ℕ
highest_last ranges base high = fold max high (map (λ r. r.last) (filter (λ r. r.base == base) ranges))

-- the code points of the range, and of all others with its base, span more offsets than fifteen bits have
abbrev pub spans_too_far : List Range → Range → Bool
spans_too_far ranges r = nat_lt 0x7FFF (highest_last ranges r.base r.last - lowest_first ranges r.base r.first)

-- the range conflicts with the others
abbrev pub is_bad_range : List Range → Range → Bool
is_bad_range ranges r = nat_lt r.last r.first || (nat_lt r.base 0x8000 || (list_any (shares r) ranges || spans_too_far ranges r))

-- the ranges with one more, before the first that begins above it
abbrev pub put_range : Range → List Range → List Range
put_range r [] = r ∷ []
put_range r (s ∷ ss) = if nat_lt r.first s.first then r ∷ s ∷ ss else s ∷ put_range r ss

-- each range begins above those before it
abbrev pub AreByFirst : List Range → Type 0
AreByFirst [] = Unit {0}
AreByFirst (r ∷ rs) = AllByRecursion (λ s. r.first < s.first) rs × AreByFirst rs
