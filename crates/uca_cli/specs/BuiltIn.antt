-- The built-in table of the program.
use Rattle.std.specs.Prelude.{ℕ, true, false, List, [], ◌∷◌}
use Rattle.std.specs.FinMap.{from_sorted}
use Rattle.uca_weights.specs.declared.element.Element.{Element}
use Rattle.uca_weights.specs.declared.range.Range.{Range}
use Rattle.uca_model.specs.Table.{ElementTable, key_cmp, with_entry}
use Rattle.uca_table.specs.Builder.{with_range}

-- an element with the mark `.`
abbrev pub plain : ℕ → ℕ → ℕ → Element
plain l1 l2 l3 = record { starred = false; l1 = l1; l2 = l2; l3 = l3 }

-- an element with the mark `*`
abbrev pub starred : ℕ → ℕ → ℕ → Element
starred l1 l2 l3 = record { starred = true; l1 = l1; l2 = l2; l3 = l3 }

-- a key with its element
abbrev pub maps : List ℕ → Element → List ℕ × List Element
maps key e = (key, e ∷ [])

-- its entries, by key order
abbrev pub built_in_entries : List (List ℕ × List Element)
built_in_entries =
    maps (0x0001 ∷ []) (plain 0x0000 0x0000 0x0000)
    ∷ maps (0x0020 ∷ []) (starred 0x0201 0x0020 0x0002)
    ∷ maps (0x002D ∷ []) (starred 0x0202 0x0020 0x0002)
    ∷ maps (0x0041 ∷ []) (plain 0x1000 0x0020 0x0008)
    ∷ maps (0x0061 ∷ []) (plain 0x1000 0x0020 0x0002)
    ∷ maps (0x0061 ∷ 0x0301 ∷ []) (plain 0x1008 0x0020 0x0002)
    ∷ maps (0x0062 ∷ []) (plain 0x1001 0x0020 0x0002)
    ∷ maps (0x0062 ∷ 0x0301 ∷ []) (plain 0x1009 0x0020 0x0002)
    ∷ maps (0x0062 ∷ 0x0301 ∷ 0x0308 ∷ []) (plain 0x100A 0x0020 0x0002)
    ∷ maps (0x0063 ∷ []) (plain 0x1002 0x0020 0x0002)
    ∷ maps (0x0063 ∷ 0x0068 ∷ []) (plain 0x1007 0x0020 0x0002)
    ∷ maps (0x0065 ∷ []) (plain 0x1004 0x0020 0x0002)
    ∷ maps (0x0068 ∷ []) (plain 0x1005 0x0020 0x0002)
    ∷ maps (0x007A ∷ []) (plain 0x1006 0x0020 0x0002)
    ∷ maps (0x0300 ∷ []) (plain 0x0000 0x0021 0x0002)
    ∷ maps (0x0301 ∷ []) (plain 0x0000 0x0022 0x0002)
    ∷ maps (0x0308 ∷ []) (plain 0x0000 0x0023 0x0002)
    ∷ maps (0x0323 ∷ []) (plain 0x0000 0x0024 0x0002)
    ∷ []

-- the ranges of its implicit weights: Tangut, its components and their supplement
abbrev pub tangut : Range
tangut = record { first = 0x17000; last = 0x18AFF; base = 0xFB00 }

abbrev pub tangut_supplement : Range
tangut_supplement = record { first = 0x18D00; last = 0x18D8F; base = 0xFB00 }

-- a table with one more code point
abbrev pub with_point : ElementTable → ℕ × Element → ElementTable
with_point t p = with_entry t (p.0 ∷ []) (p.1 ∷ [])

-- a table with the contractions
abbrev pub with_contractions : ElementTable → ElementTable
with_contractions t =
    with_entry (with_entry (with_entry (with_entry t
    (0x0063 ∷ 0x0068 ∷ []) (plain 0x1007 0x0020 0x0002 ∷ []))
    (0x0061 ∷ 0x0301 ∷ []) (plain 0x1008 0x0020 0x0002 ∷ []))
    (0x0062 ∷ 0x0301 ∷ []) (plain 0x1009 0x0020 0x0002 ∷ []))
    (0x0062 ∷ 0x0301 ∷ 0x0308 ∷ []) (plain 0x100A 0x0020 0x0002 ∷ [])

-- a table with the ranges
abbrev pub with_ranges : ElementTable → ElementTable
with_ranges t = with_range (with_range t tangut) tangut_supplement

abbrev pub built_in_table : ElementTable
built_in_table = record { entries = from_sorted {R = key_cmp} built_in_entries; ranges = tangut ∷ tangut_supplement ∷ []; ideographs = [] }
