-- A table that is tailored step by step: the given one, the gaps that were made, and the items that were added.
use Rattle.std.specs.Prelude.{◌≡◌, ℕ, ◌<◌, false, List, ◌++◌, length, map, Some}
use Rattle.std.specs.declared.vec.Vec.{Vec}
use Rattle.std.specs.List.{AllByRecursion, list_any}
use Rattle.std.specs.FinMap.{from_entries, entries}
use Rattle.uca_weights.specs.declared.element.Element.{Element}
use Rattle.uca_weights.specs.Element.{weight}
use Rattle.uca_model.specs.Table.{ElementTable, key_cmp, elements_at}
use Rattle.uca_model.specs.Gap.{moves}
use Rattle.uca_model.proofs.WeightLemmas.{Fits}
use Rattle.uca_match.specs.Keys.{HasLongest, key_set}
use Rattle.uca_tailor.specs.declared.counts.Counts.{Counts}
use Rattle.uca_tailor.specs.declared.items.Item.{Item}
use Rattle.uca_tailor.specs.declared.moves.Moves.{Moves}
use Rattle.uca_tailor.specs.declared.tops.Tops.{Tops}
use Rattle.uca_tailor.specs.Counts.{HaveCounts}
use Rattle.uca_tailor.specs.Moves.{IsPast, moved_element, start}

-- the elements of an item, moved by the gaps that were made since
abbrev pub item_entry : {Y : Type 0} → Moves → Vec ℕ Y × Item → List ℕ × List Element
item_entry m i = (i.0.items, map (moved_element m i.1.after) i.1.elements.items)

-- an entry of the given table, moved by all gaps
abbrev pub moved_entry : Moves → List ℕ × List Element → List ℕ × List Element
moved_entry m e = (e.0, map (moved_element m start) e.1)

-- the entries: at a key that occurs twice the first counts, so an item hides the entry of its key
abbrev pub all_entries : {Y : Type 0} → Moves → List (Vec ℕ Y × Item) → List (List ℕ × List Element) → List (List ℕ × List Element)
all_entries m items es = map (item_entry m) items ++ map (moved_entry m) es

abbrev pub renumbered : {Y : Type 0} → Moves → List (Vec ℕ Y × Item) → ElementTable → ElementTable
renumbered m items t = record { entries = from_entries {R = key_cmp} (all_entries m items (entries t.entries)); ranges = t.ranges; ideographs = t.ideographs }

-- an item was added after some of the gaps were made, and has elements
pub record IsItem (m : Moves) (i : Item) : Type 0 where
  pub past : IsPast m i.after
  pub some : 0 < length i.elements.items

-- no weight of the elements would move if a gap were made above `top`
abbrev pub IsBelow : ℕ → ℕ → List Element → Type 0
IsBelow level top es = list_any (λ e. moves level top (weight level e)) es ≡ false

-- nor one of the table
abbrev pub HasTop : ℕ → ℕ → ElementTable → Type 0
HasTop level top t = (key : List ℕ) (es : List Element) → elements_at t key ≡ Some es → IsBelow level top es

-- and the same of all levels
pub record HaveTops (tops : Tops) (t : ElementTable) : Type 0 where
  pub first : HasTop 1 tops.first t
  pub second : HasTop 2 tops.second t
  pub third : HasTop 3 tops.third t

-- the invariant
pub record IsRenumbered {Y : Type 0} (m : Moves) (items : List (Vec ℕ Y × Item)) (t : ElementTable) (tops : Tops) (counts : Counts) (longest : ℕ) : Type 0 where
  pub entered : AllByRecursion (λ i. IsItem m i.1) items
  pub fits : Fits (renumbered m items t)
  pub below : HaveTops tops (renumbered m items t)
  pub counted : HaveCounts counts (renumbered m items t)
  pub keys : HasLongest (key_set (renumbered m items t)) longest
