-- Segments among the points of a window: each a starter and the nonstarters after it, or nonstarters at the start.
use Rattle.std.specs.Prelude.{◌≡◌, ℕ, ◌-◌, ◌<◌, ◌≤◌, true, List, length, drop, slice_index}
use Rattle.std.specs.List.{list_all}
use Rattle.unicode.specs.CanonicalCombiningClass.{canonical_combining_class}
use Rattle.unicode_normalization.specs.Order.{is_nonstarter}
use Rattle.uca_model.specs.Window.{begins_segment}

-- the first points are whole segments, and after them comes one that is open: more points join it or close it
pub record IsOpen (closed : ℕ) (points : List ℕ) : Type 0 where
  pub within : closed ≤ length points
  pub begins : 0 < closed → begins_segment (drop closed points) ≡ true
  pub nonstarters : list_all is_nonstarter (drop 1 (drop closed points)) ≡ true
  pub some : 0 < closed → closed < length points

-- the place of a nonstarter of this class: after the last point whose class is not above it
pub record IsPlaceOf (points : List ℕ) (class at : ℕ) : Type 0 where
  pub within : at ≤ length points
  pub before : 0 < at → canonical_combining_class (slice_index points (at - 1)) ≤ class
  pub after : (k : ℕ) → at ≤ k → k < length points → class < canonical_combining_class (slice_index points k)
