-- Well-formed collation element tables (UTS #10, 5, Well-Formedness of Collation Element Tables). `lint` looks at the
-- elements of the entries, not the implicit ones.
use Rattle.std.specs.Prelude.{ℕ, ◌-◌, Bool, not, ◌==◌, ◌||◌, ◌&&◌, nat_lt, nat_le, List, [], ◌∷◌, ◌++◌, length, take, flat_map, slice_index, codes, if◌then◌else◌}
use Rattle.std.specs.List.{list_any}
use Rattle.std.specs.FinMap.{entries}
use Rattle.unicode_normalization.specs.Order.{is_nonstarter}
use Rattle.uca_weights.specs.declared.element.Element.{Element}
use Rattle.uca_weights.specs.Element.{has_primary, is_variable}
use Rattle.uca_model.specs.Lines.{line_feed}
use Rattle.uca_model.specs.Table.{ElementTable, is_key}

-- a condition of well-formedness
pub data Condition : Type 0 where
  wf1 : Condition
  wf2 : Condition
  wf3 : Condition
  wf4 : Condition
  wf5 : Condition

-- all elements of the entries, entry after entry
abbrev pub all_elements : ElementTable → List Element
all_elements t = flat_map (λ e. e.1) (entries t.entries)

-- WF1, of one element: a weight is not zero, and one at the next level is; that large primary weights are exempt is this project's own rule
abbrev pub skips_a_level : Element → Bool
skips_a_level e = nat_lt e.l1 0x8000 && (has_primary e && e.l2 == 0 || not (e.l2 == 0) && e.l3 == 0)

-- WF2: the secondary weight of an element without a primary one is not above that of an element with one
abbrev pub is_low_secondary : Element → Element → Bool
is_low_secondary e other = not (has_primary e) && not (e.l2 == 0) && (has_primary other && nat_le e.l2 other.l2)

-- WF2: the tertiary weight of an element without the others is not above that of an element with one of them
abbrev pub is_low_tertiary : Element → Element → Bool
is_low_tertiary e other = not (has_primary e) && e.l2 == 0 && not (e.l3 == 0) && ((has_primary other || not (other.l2 == 0)) && nat_le e.l3 other.l3)

-- WF3, of one element: it is marked as variable, and has no primary weight
abbrev pub is_marked_in_vain : Element → Bool
is_marked_in_vain e = e.starred && not (has_primary e)

-- WF4: the primary weight of an element that is not variable lies between those of two that are
abbrev pub lies_between : Element → Element → Element → Bool
lies_between e low high = not (is_variable e) && (is_variable low && nat_le low.l1 e.l1) && (is_variable high && nat_le e.l1 high.l1)

-- WF5: a key of more than two code points ends in a nonstarter, and without it is no key
abbrev pub lacks_its_front : ElementTable → List ℕ → Bool
lacks_its_front t key = nat_lt 2 (length key) && is_nonstarter (slice_index key (length key - 1)) && not (is_key t (take (length key - 1) key))

-- whether a table breaks a condition, over all pairs of its elements and all its keys
abbrev pub is_broken : ElementTable → Condition → Bool
is_broken t wf1 = list_any skips_a_level (all_elements t)
is_broken t wf2 = list_any (λ e. list_any (λ other. is_low_secondary e other || is_low_tertiary e other) (all_elements t)) (all_elements t)
is_broken t wf3 = list_any is_marked_in_vain (all_elements t)
is_broken t wf4 = list_any (λ e. list_any (λ low. list_any (lies_between e low) (all_elements t)) (all_elements t)) (all_elements t)
is_broken t wf5 = list_any (λ e. lacks_its_front t e.0) (entries t.entries)

-- the conditions that a table breaks, in their order
abbrev pub broken : ElementTable → List Condition
broken t = flat_map (λ c. if is_broken t c then c ∷ [] else []) (wf1 ∷ wf2 ∷ wf3 ∷ wf4 ∷ wf5 ∷ [])

-- the name of a condition
abbrev pub condition_name : Condition → List ℕ
condition_name wf1 = codes "WF1"
condition_name wf2 = codes "WF2"
condition_name wf3 = codes "WF3"
condition_name wf4 = codes "WF4"
condition_name wf5 = codes "WF5"

-- `lint`: each condition that a table breaks, as a line
abbrev pub lint_output : ElementTable → List ℕ
lint_output t = flat_map (λ c. condition_name c ++ line_feed ∷ []) (broken t)
