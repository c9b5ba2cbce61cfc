-- What a builder does to a table, and what it refuses.
use Rattle.std.specs.Prelude.{ℕ, ◌==◌, nat_lt, List, length, Option, Some, None, is_some, if◌then◌else◌}
use Rattle.std.specs.FinMap.{find}
use Rattle.uca_weights.specs.declared.element.Element.{Element}
use Rattle.uca_weights.specs.declared.limits.TheConstants.{MAX_KEY, MAX_ELEMENTS}
use Rattle.uca_weights.specs.declared.range.Ideographs.{Ideographs}
use Rattle.uca_weights.specs.declared.range.Range.{Range}
use Rattle.uca_model.specs.Table.{ElementTable, is_key, key_cmp, with_ideographs}
use Rattle.uca_table.specs.declared.fault.InsertFault.{InsertFault}
use Rattle.uca_table.specs.declared.fault.InsertFault.TheVariants.{EmptyKey, KeyTooLong, NoElement, TooManyElements, Repeated, OutOfMemory}
use Rattle.uca_table.specs.declared.fault.RangeFault.{RangeFault}
use Rattle.uca_table.specs.declared.fault.RangeFault.TheVariants as range
use Rattle.uca_model.specs.Ranges.{is_bad_range, put_range}
use Rattle.uca_model.specs.AddedIdeographs.{are_bad_ideographs, put_ideographs}

-- the first fault of a key and its elements, where there is one
abbrev pub insert_fault : ElementTable → List ℕ → List Element → Option InsertFault
insert_fault t key elements =
    if length key == 0 then Some EmptyKey
    else if nat_lt MAX_KEY (length key) then Some KeyTooLong
    else if length elements == 0 then Some NoElement
    else if nat_lt MAX_ELEMENTS (length elements) then Some TooManyElements
    else if is_key t key then Some Repeated
    else None

-- the fault of a key that entries in key order may have already
abbrev pub known_fault : List (List ℕ × List Element) → List ℕ → Option InsertFault
known_fault es key = if is_some (find key_cmp key es) then Some Repeated else None

-- the fault of the arguments that a call reported; an allocation failure is not one
abbrev pub reported_fault : InsertFault → Option InsertFault
reported_fault OutOfMemory = None
reported_fault fault = Some fault

-- the table with one more range, by its first code point
abbrev pub with_range : ElementTable → Range → ElementTable
with_range t r = record { entries = t.entries; ranges = put_range r t.ranges; ideographs = t.ideographs }

-- the fault of a range, where there is one
abbrev pub range_fault : ElementTable → Range → Option RangeFault
range_fault t r = if is_bad_range t.ranges r then Some range.BadRange else None

-- the table with one more range of ideographs, by its first code point
abbrev pub with_more_ideographs : ElementTable → Ideographs → ElementTable
with_more_ideographs t r = with_ideographs t (put_ideographs r t.ideographs)

-- the fault of a range of ideographs, where there is one
abbrev pub ideographs_fault : List Ideographs → Ideographs → Option RangeFault
ideographs_fault added r = if are_bad_ideographs added r then Some range.BadRange else None

-- the fault of the range that a call reported; an allocation failure is not one
abbrev pub reported_range_fault : RangeFault → Option RangeFault
reported_range_fault range.BadRange = Some range.BadRange
reported_range_fault range.OutOfMemory = None
