-- Which further ranges of unified ideographs one table can have, and in which order.
use Rattle.std.specs.Prelude.{Bool, ◌&&◌, ◌||◌, nat_le, nat_lt, List, [], ◌∷◌, if◌then◌else◌}
use Rattle.std.specs.List.{list_any}
use Rattle.uca_weights.specs.declared.range.Ideographs.{Ideographs}
use Rattle.uca_model.specs.UnifiedIdeographs.{repeats_listed}

-- some code point lies in both ranges
abbrev pub shares : Ideographs → Ideographs → Bool
shares r s = nat_le r.first s.last && nat_le s.first r.last

-- the range conflicts with the others
abbrev pub are_bad_ideographs : List Ideographs → Ideographs → Bool
are_bad_ideographs added r = nat_lt r.last r.first || (repeats_listed r || list_any (shares r) added)

-- the ranges with one more, before the first that begins above it
abbrev pub put_ideographs : Ideographs → List Ideographs → List Ideographs
put_ideographs r [] = r ∷ []
put_ideographs r (s ∷ ss) = if nat_lt r.first s.first then r ∷ s ∷ ss else s ∷ put_ideographs r ss
