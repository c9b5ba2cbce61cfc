-- Entries in the order of their keys, and the tables that they make.
use Rattle.std.specs.Prelude.{ℕ, T, max, List, [], length, fold, Bool, ◌==◌, nat_lt, Option, Some, None, if◌then◌else◌}
use Rattle.std.specs.List.{AllByRecursion, list_any}
use Rattle.std.specs.FinMap.{from_sorted, is_sorted, FinMap, contains_key, entries}
use Rattle.uca_weights.specs.declared.element.Element.{Element}
use Rattle.uca_weights.specs.declared.range.Range.{Range}
use Rattle.uca_model.specs.Table.{ElementTable, key_cmp, IsEntry, AreRanges}
use Rattle.uca_model.specs.Ranges.{AreByFirst}
use Rattle.std.specs.Ordering.{is_lt}
use Rattle.uca_weights.specs.declared.limits.TheConstants.{MAX_KEY, MAX_ELEMENTS}
use Rattle.uca_table.specs.declared.fault.AppendFault.{AppendFault}
use Rattle.uca_table.specs.declared.fault.AppendFault.TheVariants.{EmptyKey, KeyTooLong, NoElement, TooManyElements, OutOfOrder, Repeated, OutOfMemory}

-- the table of entries whose keys rise, without further ideographs
abbrev pub table_of : List (List ℕ × List Element) → List Range → ElementTable
table_of es rs = record { entries = from_sorted {R = key_cmp} es; ranges = rs; ideographs = [] }

-- the length of the longest key, 1 where there is none
abbrev pub longest_of : List (List ℕ × List Element) → ℕ
longest_of es = fold (λ n e. max n (length e.0)) 1 es

-- the keys rise, and all is as in a table
pub record AreStored (es : List (List ℕ × List Element)) (rs : List Range) : Type 0 where
  pub sorted : T (is_sorted key_cmp es)
  pub entries : AllByRecursion IsEntry es
  pub ranges : AreRanges rs
  pub by_first : AreByFirst rs

-- the keys rise, and each entry is as in a table
pub record AreAscending (es : List (List ℕ × List Element)) : Type 0 where
  pub sorted : T (is_sorted key_cmp es)
  pub entries : AllByRecursion IsEntry es

-- whether some entry has a greater key
abbrev pub has_greater : List (List ℕ × List Element) → List ℕ → Bool
has_greater es key = list_any (λ e. is_lt (key_cmp key e.0)) es

-- the first fault of a key and its elements after the entries of a map, where there is one
abbrev pub append_fault : FinMap key_cmp (List Element) → List ℕ → List Element → Option AppendFault
append_fault m key elements =
    if length key == 0 then Some EmptyKey
    else if nat_lt MAX_KEY (length key) then Some KeyTooLong
    else if length elements == 0 then Some NoElement
    else if nat_lt MAX_ELEMENTS (length elements) then Some TooManyElements
    else if has_greater (entries m) key then Some OutOfOrder
    else if contains_key m key then Some Repeated
    else None

-- the fault of the arguments that a call reported; an allocation failure is not one
abbrev pub reported_append_fault : AppendFault → Option AppendFault
reported_append_fault OutOfMemory = None
reported_append_fault fault = Some fault
