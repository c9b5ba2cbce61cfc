-- The text of a collation element table in the one form in which tables are written: no comments, upper-case digits, the entries by key order.
use Rattle.std.specs.Prelude.{ℕ, ◌/◌, ◌%◌, ◌==◌, nat_lt, List, [], ◌∷◌, ◌++◌, map, flat_map, codes, if◌then◌else◌}
use Rattle.std.specs.List.{join_with_byte}
use Rattle.std.specs.FinMap.{entries}
use Rattle.uca_weights.specs.declared.element.Element.{Element}
use Rattle.uca_weights.specs.declared.range.Range.{Range}
use Rattle.uca_model.specs.Table.{ElementTable}
use Rattle.uca_model.specs.Lines.{line_feed}
use Rattle.uca_model.specs.Output.{blank, hex_digit, hex_pair}

-- the four hexadecimal digits of a number of sixteen bits
abbrev pub four_digits : ℕ → List ℕ
four_digits n = hex_digit (n / 0x1000) ∷ hex_digit (n / 0x100 % 16) ∷ hex_digit (n / 0x10 % 16) ∷ hex_digit (n % 16) ∷ []

-- the digits of a plane of code points, none for plane 0
abbrev pub plane_text : ℕ → List ℕ
plane_text plane = if plane == 0 then [] else if nat_lt plane 16 then hex_digit plane ∷ [] else hex_pair plane

-- a code point, with at least four hexadecimal digits and no more than needed
unfoldable pub point_text : ℕ → List ℕ
point_text c = plane_text (c / 0x10000) ++ four_digits (c % 0x10000)

-- what comes before the weights of an element: `*` where it is starred, else `.`
abbrev pub variable_mark : Element → ℕ
variable_mark e = if e.starred then 42 else 46

-- an element as `[.1000.0020.0002]`, or with `*` in place of the first `.`
unfoldable pub element_text : Element → List ℕ
element_text e = codes "[" ++ variable_mark e ∷ four_digits e.l1 ++ codes "." ++ four_digits e.l2 ++ codes "." ++ four_digits e.l3 ++ codes "]"

-- the code points of a key with one blank between
abbrev pub key_text : List ℕ → List ℕ
key_text key = join_with_byte blank (map point_text key)

-- the line of an entry, as `0063 0068 ; [.1007.0020.0002]`, with its LF
abbrev pub entry_line : List ℕ × List Element → List ℕ
entry_line e = key_text e.0 ++ codes " ; " ++ flat_map element_text e.1 ++ line_feed ∷ []

-- the first and the last code point of a range, as `17000..18AFF`
abbrev pub ends_text : Range → List ℕ
ends_text r = point_text r.first ++ codes ".." ++ point_text r.last

-- the base of a range, as `; FB00`, and the LF after it
abbrev pub base_text : ℕ → List ℕ
base_text base = codes "; " ++ four_digits base ++ line_feed ∷ []

-- the line of a range of implicit weights, as `@implicitweights 17000..18AFF; FB00`, with its LF
abbrev pub range_line : Range → List ℕ
range_line r = codes "@implicitweights " ++ ends_text r ++ base_text r.base

-- the canonical text of a table: the ranges of implicit weights by their first code points, then the entries by key order, and nothing of further ideographs
abbrev pub canonical : ElementTable → List ℕ
canonical t = flat_map range_line t.ranges ++ flat_map entry_line (entries t.entries)
