-- Implicit weights (UTS #10, section 10.1, Derived Collation Elements).
use Rattle.std.specs.Prelude.{ℕ, ◌+◌, ◌-◌, ◌/◌, ◌%◌, min, Bool, false, not, ◌==◌, List, [], ◌∷◌, fold, map, find, filter, Option, if◌then◌else◌}
use Rattle.std.specs.Option.{option_map_or}
use Rattle.ucd_category.specs.declared.GeneralCategory.TheVariants.{Unassigned}
use Rattle.ucd_category.specs.GeneralCategory.{general_category, general_category_eq}
use Rattle.uca_weights.specs.declared.element.Element.{Element}
use Rattle.uca_weights.specs.declared.range.Ideographs.{Ideographs}
use Rattle.uca_weights.specs.declared.range.Range.{Range}
pub use Rattle.uca_model.specs.UnifiedIdeographs.{is_between, in_some, is_unified_ideograph}
use Rattle.uca_model.specs.Table.{ElementTable}

-- a code point that Unicode assigns a character to
abbrev pub is_assigned : ℕ → Bool
is_assigned c = not (general_category_eq (general_category c) Unassigned)

-- the blocks CJK Unified Ideographs and CJK Compatibility Ideographs
abbrev pub core_blocks : List (ℕ × ℕ)
core_blocks = (0x4E00, 0x9FFF) ∷ (0xF900, 0xFAFF) ∷ []

-- 10.1.3: [.AAAA.0020.0002][.BBBB.0000.0000]
abbrev pub pair : ℕ → ℕ → List Element
pair aaaa bbbb = record { starred = false; l1 = aaaa; l2 = 0x20; l3 = 2 } ∷ record { starred = false; l1 = bbbb; l2 = 0; l3 = 0 } ∷ []

-- the range in which a code point lies
abbrev pub range_of : List Range → ℕ → Option Range
range_of ranges c = find (λ r. is_between r.first r.last c) ranges

-- the lowest of a code point and of the first code points of the ranges with a base
abbrev pub lowest_first : List Range → ℕ → ℕ → ℕ
lowest_first ranges base low = fold min low (map (λ r. r.first) (filter (λ r. r.base == base) ranges))

-- as 10.1.3 has it for siniform scripts, of any range: the base, and the offset from the first code point of all ranges with that base
abbrev pub in_range : List Range → ℕ → Range → List Element
in_range ranges c r = pair r.base (c - lowest_first ranges r.base r.first + 0x8000)

-- 10.1.3: the code point in two parts of fifteen bits, the first over a base
abbrev pub in_two_parts : ℕ → ℕ → List Element
in_two_parts base c = pair (base + c / 0x8000) (c % 0x8000 + 0x8000)

-- 10.1.3: the base of a code point in no range, with further ranges of unified ideographs
abbrev pub two_parts_base : List Ideographs → ℕ → ℕ
two_parts_base added c = if is_unified_ideograph added c then (if in_some core_blocks c then 0xFB40 else 0xFB80) else 0xFBC0

-- 10.1.3: the same by the ranges of implicit weights, which decide first
unfoldable pub implicit_over : List Range → List Ideographs → ℕ → List Element
implicit_over ranges added c =
    let by_code_point = in_two_parts (two_parts_base added c) c in
    if is_assigned c then option_map_or (in_range ranges c) (range_of ranges c) by_code_point else by_code_point

-- 10.1.3: the elements that a table gives a code point that is no key where it stands alone
abbrev pub implicit : ElementTable → ℕ → List Element
implicit t c = implicit_over t.ranges t.ideographs c
