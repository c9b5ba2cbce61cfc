use Rattle.std.proofs.Common.{ℕ, ◌<◌, ◌≤◌, length, slice_index}
use Rattle.unicode.specs.CanonicalCombiningClass.{canonical_combining_class}
use Rattle.uca_window.proofs.points.place_of.Given as goal

-- the points from the place on have higher classes
abbrev pub invariant-loop-at : goal.invariant-loop-at
invariant-loop-at l =
    (l.at ≤ length l.points) × ((k : ℕ) → l.at ≤ k → k < length l.points → l.class < canonical_combining_class (slice_index l.points k))

abbrev pub decreases-loop-at : goal.decreases-loop-at
decreases-loop-at l = l.at
