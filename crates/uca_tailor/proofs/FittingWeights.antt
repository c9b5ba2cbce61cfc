-- Weights keep to sixteen bits where a relation has no fault.
use Rattle.std.proofs.Common.{◌≡◌, ℕ, ◌+◌, ◌<◌, false, ◌==◌, nat_le, List, [], ◌∷◌, map, Option, Some, None, unwrap_or, refl, sym, subst, ◌∙◌, arith, inl, inr}
use Rattle.std.proofs.lemmas.Bool.{cases_Bool}
use Rattle.std.proofs.lemmas.Bool.Decides.{nat_tests}
use Rattle.std.specs.List.{AllByRecursion, list_any}
use Rattle.std.specs.Option.{option_map}
use Rattle.std.specs.Ordering.{eq_by_cmp}
use Rattle.std.specs.FinMap.{entries, values, get-entries}
use Rattle.uca_weights.specs.declared.element.Element.{Element}
use Rattle.uca_weights.specs.Element.{weight}
use Rattle.uca_model.specs.Table.{ElementTable, IsElement, key_cmp, elements_at, with_entry}
use Rattle.uca_model.specs.Gap.{with_gap, table_with_gap, cannot_move, max_weight}
use Rattle.uca_model.specs.Tailoring.{is_high, raised, Placed}
use Rattle.uca_model.proofs.AnchorElements.{any_anchor}
use Rattle.uca_model.proofs.AnchorPlaces.{ends_in_a_weight}
use Rattle.uca_model.proofs.GapLookups.{elements_at-with_gap}
use Rattle.uca_model.proofs.GapAtWeights.{weight_with_gap-fits}
use Rattle.uca_model.proofs.WeightLemmas.{Fits, each-append}
use Rattle.uca_tailor.proofs.Levels.{IsLevel, level_one, level_two, level_three}
use Rattle.uca_tailor.proofs.LevelOrders.{AllCanMove}
use Rattle.uca_tailor.proofs.ChangedTables.{all_of_none, found_can_move, elements_at-same, elements_at-other}
use Rattle.uca_tailor.proofs.RelationFacts.{IsPlacedAt}
use Rattle.uca_tailor.proofs.AnchorWeights.{parts_of}

-- ## An element moved for a gap

element_fits : (m w : ℕ) (e : Element) → IsLevel m → cannot_move m w e ≡ false → IsElement e → IsElement (with_gap m w e)
element_fits m w e level_one s h = record { l1 = weight_with_gap-fits 1 w e.l1 s h.l1; l2 = h.l2; l3 = h.l3 }
element_fits m w e level_two s h = record { l1 = h.l1; l2 = weight_with_gap-fits 2 w e.l2 s h.l2; l3 = h.l3 }
element_fits m w e level_three s h = record { l1 = h.l1; l2 = h.l2; l3 = weight_with_gap-fits 3 w e.l3 s h.l3 }

pub shifted_fit : (m w : ℕ) (es : List Element) → IsLevel m → AllCanMove m w es → AllByRecursion IsElement es → AllByRecursion IsElement (map (with_gap m w) es)
shifted_fit m w [] l s h = tt
shifted_fit m w (e ∷ es) l s h = (element_fits m w e l s.0 h.0, shifted_fit m w es l s.1 h.1)

-- ## The base of an item

raised_first : (x : ℕ) → nat_le 0x8000 x ≡ false → x + 1 < 65536
raised_first x h = grind (arith, nat_tests)

raised_other : (x : ℕ) → x < 65536 → (x == 65535) ≡ false → x + 1 < 65536
raised_other x h e = grind (arith, nat_tests)

raised_fits : (m : ℕ) (e : Element) → IsLevel m → IsElement e → is_high e ≡ false → (weight m e == max_weight m) ≡ false → IsElement (raised m e)
raised_fits m e level_one h low other = record { l1 = raised_first e.l1 low; l2 = omega arith; l3 = omega arith }
raised_fits m e level_two h low other = record { l1 = h.l1; l2 = raised_other e.l2 h.l2 other; l3 = omega arith }
raised_fits m e level_three h low other = record { l1 = h.l1; l2 = h.l2; l3 = raised_other e.l3 h.l3 other }

pub base_fits : (m : ℕ) (t : ElementTable) (es : List Element) (p : Placed) → IsLevel m → (h : IsPlacedAt m t es p) → AllByRecursion IsElement es → AllByRecursion IsElement p.base
base_fits m t es p l h fit =
    let a = h.split in
    let w = weight m a.last in
    let s = ends_in_a_weight m es a h.is_split in
    let parts = parts_of IsElement a.before (a.last ∷ s.dropped) (subst (AllByRecursion IsElement) s.parts fit) in
    let room = any_anchor (cannot_move m w) m es a h.is_split h.free.anchor_can_move in
    let low = any_anchor is_high m es a h.is_split h.free.low in
    subst (λ z. AllByRecursion IsElement z.base) (sym h.are)
    (each-append IsElement (map (with_gap m w) a.before) (raised m a.last ∷ []) (shifted_fit m w a.before l (all_of_none (cannot_move m w) a.before room.0) parts.0)
    (raised_fits m a.last l parts.1.0 low.1 h.free.below_top, tt))

-- ## The new table

pub entry_can_move : (m w : ℕ) (t : ElementTable) (key : List ℕ) (es : List Element) → list_any (list_any (cannot_move m w)) (values t.entries) ≡ false → elements_at t key ≡ Some es → AllCanMove m w es
entry_can_move m w t key es h e = subst (λ o. AllCanMove m w (unwrap_or o [])) (sym (get-entries t.entries key) ∙ e) (found_can_move m w key (entries t.entries) h [] tt)

pub shifted_entry_fits : (m w : ℕ) (t : ElementTable) (key : List ℕ) (o : Option (List Element)) (es : List Element) → IsLevel m → Fits t → list_any (list_any (cannot_move m w)) (values t.entries) ≡ false → elements_at t key ≡ o
    → option_map (map (with_gap m w)) o ≡ Some es → AllByRecursion IsElement es
shifted_entry_fits m w t key None es l f h is e = absurd (cc)
shifted_entry_fits m w t key (Some fs) es l f h is e = let found : map (with_gap m w) fs ≡ es = cc in subst (AllByRecursion IsElement) found (shifted_fit m w fs l (entry_can_move m w t key fs h is) (f.entries key fs is))

pub new_fits : (m w : ℕ) (t u : ElementTable) (item : List ℕ) (whole : List Element) → IsLevel m → Fits t → list_any (list_any (cannot_move m w)) (values t.entries) ≡ false → AllByRecursion IsElement whole
    → u ≡ with_entry (table_with_gap m w t) item whole → Fits u
new_fits m w t u item whole l f h g is = subst Fits (sym is) (record {
  ranges = f.ranges;
  entries = λ key es e. elim (cases_Bool (eq_by_cmp key_cmp key item)) [
    | inl here ↦
        let found : Some whole ≡ Some es = sym (elements_at-same (table_with_gap m w t) item whole key here) ∙ e in
        let value : whole ≡ es = cc in subst (AllByRecursion IsElement) value g
    | inr other ↦ shifted_entry_fits m w t key (elements_at t key) es l f h refl (sym (elements_at-with_gap m w t key) ∙ sym (elements_at-other (table_with_gap m w t) item whole key other) ∙ e)
  ];
})
