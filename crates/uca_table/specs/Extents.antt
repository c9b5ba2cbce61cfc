-- How a builder keeps its ranges: each at its last code point, and for each base the extent of its ranges.
use Rattle.std.specs.Prelude.{◌≡◌, ℕ, ◌==◌, nat_le, min, max, List, [], ◌∷◌, Option, Some, None, if◌then◌else◌}
use Rattle.std.specs.List.{AllByRecursion}
use Rattle.uca_weights.specs.declared.range.Range.{Range}
use Rattle.uca_table.specs.declared.ranges.Extent.{Extent}

-- the lowest first and the highest last code point of a range and of the others with its base
abbrev pub extent_with : Range → Option Extent → Extent
extent_with r None = record { lowest = r.first; highest = r.last }
extent_with r (Some others) = record { lowest = min others.lowest r.first; highest = max others.highest r.last }

-- those of all ranges with a base
abbrev pub extent_of : List Range → ℕ → Option Extent
extent_of [] base = None
extent_of (r ∷ rs) base = if r.base == base then Some (extent_with r (extent_of rs base)) else extent_of rs base

-- each base has the extent of its ranges
pub record AreExtents (extent_at : ℕ → Option Extent) (rs : List Range) : Type 0 where
  pub each : (base : ℕ) → extent_at base ≡ extent_of rs base

-- each range is at its last code point
abbrev pub AreByLast : List (ℕ × Range) → Type 0
AreByLast es = AllByRecursion (λ e. e.0 ≡ e.1.last) es

-- a range, where there is one and it begins at a code point or below
abbrev pub begins_by : ℕ → Option Range → Option Range
begins_by c None = None
begins_by c (Some r) = if nat_le r.first c then Some r else None
