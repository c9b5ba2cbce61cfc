-- A gap for a new weight at one level. That all weights above it go up by one is this project's own assignment of weights.
use Rattle.std.specs.Prelude.{ℕ, ◌+◌, Bool, not, ◌==◌, ◌||◌, ◌&&◌, nat_lt, List, map, if◌then◌else◌}
use Rattle.std.specs.FinMap.{from_entries, entries}
use Rattle.uca_weights.specs.declared.element.Element.{Element}
use Rattle.uca_weights.specs.Element.{weight}
use Rattle.uca_model.specs.Table.{ElementTable, key_cmp}

-- whether a weight x of a level moves when a gap is made above w: at level 1 the implicit weights, from 8000 on, stay
abbrev pub moves : ℕ → ℕ → ℕ → Bool
moves level w x = nat_lt w x && (not (level == 1) || nat_lt x 0x8000)

-- a weight of a level with a gap above w
abbrev pub weight_with_gap : ℕ → ℕ → ℕ → ℕ
weight_with_gap level w x = if moves level w x then x + 1 else x

-- a weight of a level, when a gap is made above w at the level `moving`
abbrev pub weight_with_gap_at : ℕ → ℕ → ℕ → ℕ → ℕ
weight_with_gap_at moving w level x = if moving == level then weight_with_gap moving w x else x

-- an element with a gap above w
abbrev pub with_gap : ℕ → ℕ → Element → Element
with_gap moving w e = record { starred = e.starred; l1 = weight_with_gap_at moving w 1 e.l1; l2 = weight_with_gap_at moving w 2 e.l2; l3 = weight_with_gap_at moving w 3 e.l3 }

-- the greatest weight that may occur at a level below the implicit ones
abbrev pub max_weight : ℕ → ℕ
max_weight level = if level == 1 then 0x7FFF else 0xFFFF

-- whether the weight of an element would move, and can't
abbrev pub cannot_move : ℕ → ℕ → Element → Bool
cannot_move moving w e = moves moving w (weight moving e) && weight moving e == max_weight moving

-- an entry with a gap above w
abbrev pub entry_with_gap : ℕ → ℕ → List ℕ × List Element → List ℕ × List Element
entry_with_gap moving w e = (e.0, map (with_gap moving w) e.1)

-- a table with a gap above w: its ranges of implicit weights and of ideographs stay
abbrev pub table_with_gap : ℕ → ℕ → ElementTable → ElementTable
table_with_gap moving w t = record { entries = from_entries {R = key_cmp} (map (entry_with_gap moving w) (entries t.entries)); ranges = t.ranges; ideographs = t.ideographs }
