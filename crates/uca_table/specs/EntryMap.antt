-- How the entries of a builder lie: those of single code points in blocks, the others in a map, and all in one list of elements.
use Rattle.std.specs.Prelude.{ℕ, ◌-◌, ◌*◌, nat_le, Bool, List, take, drop, length, ◌≡◌, zero, suc, ◌+◌, ◌≤◌, ◌<◌, cond, T, [], ◌∷◌, ◌++◌, get_or, map}
use Rattle.uca_weights.specs.declared.element.Element.{Element}
use Rattle.uca_table.specs.Blocks.{IsBlocks, item_at}
use Rattle.uca_table.specs.declared.single_map.Place.{Place}
use Rattle.uca_table.specs.declared.single_map.SingleMap.{SingleMap}
use Rattle.std.specs.declared.vec.Vec.{Vec}
use Rattle.std.specs.FinMap.{is_sorted}
use Rattle.std.specs.List.{AllByRecursion}
use Rattle.uca_model.specs.Table.{key_cmp}
use Rattle.uca_table.specs.Ascending.{AreAscending}

-- the place of a key that there is not
abbrev pub NoPlace : Place
NoPlace = record { start = 1; past = 0 }

-- a key has this place
abbrev pub is_used : Place → Bool
is_used p = nat_le p.start p.past

-- the elements at a place
abbrev pub taken : Place → List Element → List Element
taken p es = take (p.past - p.start) (drop p.start es)

-- the place of the key of one code point
abbrev pub place_at : SingleMap → ℕ → Place
place_at m p = item_at NoPlace m.blocks p

-- how many code points the blocks have
abbrev pub points_of : SingleMap → ℕ
points_of m = length m.blocks.numbers.items * 128

-- places lie in blocks
abbrev pub IsSingleMap : SingleMap → Type 0
IsSingleMap m = IsBlocks NoPlace m.blocks

-- a key with its place, as the map of longer keys has them
abbrev pub keyed : {Y : Type 0} → Vec ℕ Y × Place → List ℕ × Place
keyed e = (e.0.items, e.1)

-- the entry that a key and its place stand for
abbrev pub entry_in : List Element → List ℕ × Place → List ℕ × List Element
entry_in es e = (e.0, taken e.1 es)

-- the key of one code point, where it has a place
abbrev pub point_at : (ℕ → Place) → ℕ → List (List ℕ × Place)
point_at at p = cond (is_used (at p)) ((p ∷ [], at p) ∷ []) []

-- such keys from one code point on, of this many
abbrev pub points_from : (ℕ → Place) → ℕ → ℕ → List (List ℕ × Place)
points_from at p zero = []
points_from at p (suc n) = point_at at p ++ points_from at (p + 1) n

-- the first code point of a key
abbrev pub first_of : List ℕ → ℕ
first_of k = get_or k 0 0

-- the keys of the code points from one up to another among longer keys, each of which comes right after its first code point
-- and those below
abbrev pub merged : (ℕ → Place) → ℕ → ℕ → List (List ℕ × Place) → List (List ℕ × Place)
merged at p end [] = points_from at p (end - p)
merged at p end (k ∷ ks) = points_from at p ((first_of k.0 + 1) - p) ++ k ∷ merged at (first_of k.0 + 1) end ks

-- all keys with their places, in order
abbrev pub places_in : {Y : Type 0} → SingleMap → List (Vec ℕ Y × Place) → List (List ℕ × Place)
places_in m ms = merged (place_at m) 0 (points_of m) (map keyed ms)

-- all entries
abbrev pub entries_in : {Y : Type 0} → SingleMap → List (Vec ℕ Y × Place) → List Element → List (List ℕ × List Element)
entries_in m ms es = map (entry_in es) (places_in m ms)

-- a key has two code points or more
abbrev pub IsLong : List ℕ × Place → Type 0
IsLong e = 1 < length e.0

-- the elements of an entry are among the first this many
abbrev pub IsPlaced : ℕ → List ℕ × Place → Type 0
IsPlaced n e = (e.1.start ≤ e.1.past) × (e.1.past ≤ n)

-- how the maps and the elements belong together
pub record AreEntries {Y : Type 0} (m : SingleMap) (ms : List (Vec ℕ Y × Place)) (es : List Element) : Type 0 where
  pub singles : IsSingleMap m
  pub long : AllByRecursion IsLong (map keyed ms)
  pub sorted : T (is_sorted key_cmp (map keyed ms))
  pub placed : AllByRecursion (IsPlaced (length es)) (places_in m ms)

-- all entries, whose keys rise, are these ones and those of the keys that are left
pub record AreAhead (es : List Element) (before : List (List ℕ × List Element)) (left : List (List ℕ × Place)) (all : List (List ℕ × List Element)) : Type 0 where
  pub placed : AllByRecursion (IsPlaced (length es)) left
  pub whole : before ++ map (entry_in es) left ≡ all
  pub ascending : AreAscending all

-- the entries of some keys may come next
abbrev pub MayFollow : List Element → List (List ℕ × List Element) → List (List ℕ × Place) → Type 0
MayFollow es before left = AreAhead es before left (before ++ map (entry_in es) left)
