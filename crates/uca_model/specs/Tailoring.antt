-- A table that is tailored by rules: relation by relation, each item goes directly after its anchor (UTS #35, Part 5, 3.5, Orderings).
-- How weights are assigned is this project's own.
use Rattle.std.specs.Prelude.{◌≡◌, ℕ, ◌+◌, Bool, false, ◌==◌, ◌||◌, nat_lt, nat_le, List, [], ◌∷◌, ◌++◌, length, map, Option, Some, None, Result, Ok, Err, if◌then◌else◌}
use Rattle.std.specs.List.{list_any, AllByRecursion}
use Rattle.std.specs.Ordering.{eq_by_cmp}
use Rattle.std.specs.Option.{option_map_or}
use Rattle.std.specs.FinMap.{values}
use Rattle.unicode_normalization.specs.Forms.{nfd}
use Rattle.uca_weights.specs.declared.element.Element.{Element}
use Rattle.uca_weights.specs.declared.limits.TheConstants.{MAX_ELEMENTS}
use Rattle.uca_weights.specs.Element.{weight}
use Rattle.uca_model.specs.Table.{ElementTable, key_cmp, with_entry, is_key}
use Rattle.uca_model.specs.CollationElements.{elements, matches}
use Rattle.uca_model.specs.TableText.{◌>>=◌}
use Rattle.uca_model.specs.Rules.{Operator, first, second, third, same, Relation, Chain, items}
use Rattle.uca_model.specs.Gap.{with_gap, cannot_move, table_with_gap, max_weight}

-- why a relation is refused
pub data TailorCause : Type 0 where
  small_weight : TailorCause
  high_reset : TailorCause
  full : ℕ → TailorCause
  too_many_elements : TailorCause

-- Anchors

-- the last element with a weight at a level, and the elements before it
pub record Anchor : Type 0 where
  pub before : List Element
  pub last : Element

abbrev pub alone : Element → Anchor
alone e = record { before = []; last = e }

abbrev pub preceded_by : Element → Anchor → Anchor
preceded_by e a = record { before = e ∷ a.before; last = a.last }

-- elements without those at their end that have no weight at the level; none where no element has one
abbrev pub anchor_of : ℕ → List Element → Option Anchor
anchor_of level [] = None
anchor_of level (e ∷ es) = option_map_or (λ a. Some (preceded_by e a)) (anchor_of level es) (if weight level e == 0 then None else Some (alone e))

-- the least last weight of an anchor: at the second and third level that of implicit elements, so that these never move
abbrev pub least : ℕ → ℕ
least level = if level == 2 then 0x20 else if level == 3 then 2 else 0

-- a primary weight as high as the implicit ones (UTS #10, 10.1.3)
abbrev pub is_high : Element → Bool
is_high e = nat_le 0x8000 e.l1

-- no gap can be made above w at a level: some weight that has to move cannot, or w itself cannot be raised
abbrev pub is_full : ℕ → ℕ → ElementTable → List Element → Bool
is_full level w t anchor = w == max_weight level || list_any (cannot_move level w) anchor || list_any (list_any (cannot_move level w)) (values t.entries)

-- the first fault of a relation at a level, after elements whose last weight at that level is w
abbrev pub fault_at : ℕ → ℕ → ElementTable → List Element → Option TailorCause
fault_at level w t anchor =
    if nat_lt w (least level) then Some small_weight
    else if list_any is_high anchor then Some high_reset
    else if is_full level w t anchor then Some (full level)
    else None

-- Places

-- the element next to one at a level: one more at that level, and at the levels below it the weights of a letter without accents
abbrev pub raised : ℕ → Element → Element
raised level e = record {
  starred = e.starred;
  l1 = if level == 1 then e.l1 + 1 else e.l1;
  l2 = if level == 1 then 0x20 else if level == 2 then e.l2 + 1 else e.l2;
  l3 = if level == 3 then e.l3 + 1 else 2;
}

-- the elements of an item without its expansion, and the table with the gap for them
pub record Placed : Type 0 where
  pub base : List Element
  pub table : ElementTable

-- directly after an anchor
abbrev pub placed_next_to : ℕ → ElementTable → Anchor → Placed
placed_next_to level t a = let w = weight level a.last in record { base = map (with_gap level w) a.before ++ raised level a.last ∷ []; table = table_with_gap level w t }

-- the same, or its first fault
abbrev pub placed_at : ℕ → ElementTable → List Element → Anchor → Result Placed TailorCause
placed_at level t anchor a = option_map_or (λ cause. Err cause) (fault_at level (weight level a.last) t anchor) (Ok (placed_next_to level t a))

-- after elements at a level, or the first fault: elements without a weight at the level have none small enough
abbrev pub placed_after : ℕ → ElementTable → List Element → Result Placed TailorCause
placed_after level t anchor = option_map_or (placed_at level t anchor) (anchor_of level anchor) (Err small_weight)

-- where an operator places an item: `=` at the place of its anchor
abbrev pub placed : ElementTable → List Element → Operator → Result Placed TailorCause
placed t anchor first = placed_after 1 t anchor
placed t anchor second = placed_after 2 t anchor
placed t anchor third = placed_after 3 t anchor
placed t anchor same = Ok (record { base = anchor; table = t })

-- Relations

-- the table with an item, and the anchor of the next relation
pub record Related : Type 0 where
  pub table : ElementTable
  pub anchor : List Element

-- an item is added with all its elements; the next relation goes after them without the expansion
abbrev pub entered : List ℕ → Placed → List Element → Result Related TailorCause
entered item p whole = if nat_lt MAX_ELEMENTS (length whole) then Err too_many_elements else Ok (record { table = with_entry p.table item whole; anchor = p.base })

-- one relation: its expansion has the elements of the table with the gap for the item (UTS #35, 3.6, Expansions)
abbrev pub related : ElementTable → List Element → Relation → Result Related TailorCause
related t anchor r = placed t anchor r.op >>= λ p. entered r.item p (p.base ++ elements p.table r.expansion)

-- the relation at fault, counted from 1 over all chains, and why
pub record TailorFault : Type 0 where
  pub relation : ℕ
  pub cause : TailorCause

abbrev pub at_relation : {A : Type 0} → ℕ → Result A TailorCause → Result A TailorFault
at_relation n (Ok a) = Ok a
at_relation n (Err cause) = Err (record { relation = n; cause = cause })

-- the relations of a chain, after n others
unfoldable pub related_all : ℕ → ElementTable → List Element → List Relation → Result ElementTable TailorFault
related_all n t anchor [] = Ok t
related_all n t anchor (r ∷ rs) = at_relation (n + 1) (related t anchor r) >>= λ next. related_all (n + 1) next.table next.anchor rs

-- chains, after n relations: at a reset the anchor is the elements of its string under the table so far
unfoldable pub tailored_from : ℕ → ElementTable → List Chain → Result ElementTable TailorFault
tailored_from n t [] = Ok t
tailored_from n t (c ∷ cs) = related_all n t (elements t c.reset) c.relations >>= λ next. tailored_from (n + length c.relations) next cs

-- the table tailored by all chains, or the fault of the first relation that has one
abbrev pub tailored : ElementTable → List Chain → Result ElementTable TailorFault
tailored t cs = tailored_from 0 t cs

-- What a tailoring does not change

-- a key is touched by rules if it is the item of some relation
abbrev pub is_touched : List Chain → List ℕ → Bool
is_touched cs key = list_any (eq_by_cmp key_cmp key) (items cs)

-- a text has the same matches under both tables, and none of them is a touched key
pub record IsUntouched (t u : ElementTable) (cs : List Chain) (text : List ℕ) : Type 0 where
  pub same_matches : matches (is_key t) (nfd text) ≡ matches (is_key u) (nfd text)
  pub others : AllByRecursion (λ m. is_touched cs m.code_points ≡ false) (matches (is_key t) (nfd text))
