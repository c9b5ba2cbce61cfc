-- Entries of a tailored table that are written one after the other.
use Rattle.std.specs.Prelude.{◌≡◌, Bool, List, ℕ, map}
use Rattle.std.specs.Borrow.{Bor}
use Rattle.std.specs.FinMap.{FinMap, find, get}
use Rattle.std.specs.Ordering.{is_le}
use Rattle.std.specs.declared.vec.Vec.{Vec}
use Rattle.uca_weights.specs.declared.element.Element.{Element}
use Rattle.uca_model.specs.Table.{key_cmp}
use Rattle.uca_tailor.specs.declared.items.Item.{Item}
use Rattle.uca_tailor.specs.declared.moves.Moves.{Moves}
use Rattle.uca_tailor.specs.Moves.{cut}
use Rattle.uca_tailor.specs.Renumbered.{item_entry}

-- an entry whose weights are cut to sixteen bits
abbrev pub cut_entry : List ℕ × List Element → List ℕ × List Element
cut_entry e = (e.0, map cut e.1)

-- an item and its key, as they are borrowed
abbrev pub entered_item : {Y : Type 0} → Bor (Vec ℕ Y) × Bor Item → Vec ℕ Y × Item
entered_item i = (i.0.now, i.1.now)

-- whether an item has this key or a smaller one
abbrev pub is_up_to : {Y : Type 0} → List ℕ → Vec ℕ Y × Item → Bool
is_up_to key i = is_le (key_cmp i.0.items key)

-- the entries of items, moved by the gaps that were made since
abbrev pub item_entries : {Y : Type 0} → Moves → List (Vec ℕ Y × Item) → List (List ℕ × List Element)
item_entries m items = map cut_entry (map (item_entry m) items)

-- each key has the elements of the first entry with it
abbrev pub Holds : FinMap key_cmp (List Element) → List (List ℕ × List Element) → Type 0
Holds m es = (q : List ℕ) → get m q ≡ find key_cmp q es
