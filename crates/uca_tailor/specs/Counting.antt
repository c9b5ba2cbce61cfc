-- What is counted of a table that is tailored.
use Rattle.std.specs.Prelude.{ℕ, ◌+◌, List, [], ◌∷◌, map, is_some, if◌then◌else◌}
use Rattle.std.specs.declared.vec.Vec.{Vec}
use Rattle.std.specs.BTreeMap.{is_at}
use Rattle.std.specs.Cmp.Lexicographic.{slice_cmp}
use Rattle.std.specs.List.Sorted.{IsStrictlySortedBy}
use Rattle.std.specs.Map.{keys_of, lookup}
use Rattle.std.specs.Ordering.{nat_cmp}
use Rattle.uca_weights.specs.declared.element.Element.{Element}
use Rattle.uca_tailor.specs.declared.items.Item.{Item}
use Rattle.uca_tailor.specs.declared.moves.Moves.{Moves}
use Rattle.uca_tailor.specs.Counts.{count_at}
use Rattle.uca_tailor.specs.Moves.{cut, moved_element, start}

-- the keys of the items rise
abbrev pub AreInOrder : {Y : Type 0} → List (Vec ℕ Y × Item) → Type 0
AreInOrder items = IsStrictlySortedBy (λ x y. slice_cmp nat_cmp x.items y.items) (keys_of items)

-- how many elements of the entries of a table have a weight x now, without the entries whose keys items have
abbrev pub count_shown : {Y : Type 0} → ℕ → ℕ → Moves → List (Vec ℕ Y × Item) → List (List ℕ × List Element) → ℕ
count_shown level x m items [] = 0
count_shown {Y} level x m items (e ∷ es) =
    (if is_some (lookup (is_at (λ (k : Vec ℕ Y). slice_cmp nat_cmp e.0 k.items)) items) then 0 else count_at level x (map cut (map (moved_element m start) e.1))) + count_shown level x m items es
