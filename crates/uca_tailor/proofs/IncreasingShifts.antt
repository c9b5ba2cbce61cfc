-- The shift of a relation is strictly increasing on the weights that occur at its level: each of them can move up.
use Rattle.std.proofs.Common.{◌≡◌, ℕ, ◌≤◌, ◌<◌, Bool, true, false, ◌||◌, ◌==◌, eqb, eqb-true, List, [], ◌∷◌, slice_index, unwrap_or, refl, sym, ap, subst, ◌∙◌, arith}
use Rattle.std.proofs.lemmas.Bool.Decides.{nat_tests}
use Rattle.std.specs.List.{list_any}
use Rattle.std.specs.FinMap.{values}
use Rattle.uca_weights.specs.declared.element.Element.{Element}
use Rattle.uca_weights.specs.Element.{weight}
use Rattle.uca_model.specs.Table.{ElementTable, AreRanges, elements_at}
use Rattle.uca_model.specs.ImplicitWeights.{implicit, implicit_over}
use Rattle.uca_model.specs.Rules.{Relation}
use Rattle.uca_model.specs.Gap.{weight_with_gap, table_with_gap, cannot_move}
use Rattle.uca_model.specs.Tailoring.{least, Related}
use Rattle.uca_model.proofs.GapAtWeights.{weight_cannot_move, weight_with_gap-zero, weight_with_gap-high}
use Rattle.uca_model.proofs.GapLookups.{elements_at-with_gap}
use Rattle.uca_tailor.specs.TailoringLaws.{has_weight, LiesAt, is_none, of_entry, of_implicit, is_highest, IsShift, EachShiftIsIncreasing}
use Rattle.uca_tailor.proofs.Levels.{IsLevel, places_at}
use Rattle.uca_tailor.proofs.LevelOrders.{AllCanMove}
use Rattle.uca_tailor.proofs.ImplicitElements.{implicit-with_gap, implicit_can_move}
use Rattle.uca_tailor.proofs.ChangedTables.{elements_or_implicit_can_move, elements_at-other}
use Rattle.uca_tailor.proofs.RelationFacts.{IsRelated, is_related}

increasing : (level w x y : ℕ) → weight_cannot_move level w x ≡ false → weight_cannot_move level w y ≡ false → x < y → weight_with_gap level w x < weight_with_gap level w y
increasing level w x y p q less = grind (arith, nat_tests)

-- ## Weights that can move up

none_can_move : (level w : ℕ) → weight_cannot_move level w 0 ≡ false
none_can_move level w = grind (arith, nat_tests)

highest_can_move : (w : ℕ) → weight_cannot_move 1 w 0xFFFF ≡ false
highest_can_move w = grind (arith, nat_tests)

by_first : (m w x : ℕ) (e : Element) (others b : Bool) → eqb (weight m e) x ≡ b → cannot_move m w e ≡ false → (others ≡ true → weight_cannot_move m w x ≡ false) → (b || others) ≡ true → weight_cannot_move m w x ≡ false
by_first m w x e others true is room more h = subst (λ y. weight_cannot_move m w y ≡ false) (eqb-true (weight m e) x is) room
by_first m w x e others false is room more h = more h

list_can_move : (m w x : ℕ) (es : List Element) → AllCanMove m w es → has_weight m x es ≡ true → weight_cannot_move m w x ≡ false
list_can_move m w x [] all h = absurd (cc)
list_can_move m w x (e ∷ es) all h = by_first m w x e (has_weight m x es) (weight m e == x) refl all.0 (list_can_move m w x es all.1) h

lies_in_gap : (m w x : ℕ) (t : ElementTable) → IsLevel m → AreRanges t.ranges → least m ≤ w → list_any (list_any (cannot_move m w)) (values t.entries) ≡ false → LiesAt m t x → weight_cannot_move m w x ≡ false
lies_in_gap m w x t l ranges large free (is_none is) = subst (λ y. weight_cannot_move m w y ≡ false) (sym is) (none_can_move m w)
lies_in_gap m w x t l ranges large free (of_entry key es found has) =
    list_can_move m w x es (subst (λ o. AllCanMove m w (unwrap_or o (implicit_over t.ranges t.ideographs (slice_index key 0)))) found (elements_or_implicit_can_move m w t key l ranges large free)) has
lies_in_gap m w x t l ranges large free (of_implicit c has) = list_can_move m w x (implicit t c) (implicit_can_move m w t.ranges t.ideographs c l ranges large) has
lies_in_gap m w x t l ranges large free (is_highest first is) =
    subst (λ y. weight_cannot_move m w y ≡ false) (sym is) (subst (λ k. weight_cannot_move k w 0xFFFF ≡ false) (sym first) (highest_can_move w))

-- ## Relations

highest : (m w : ℕ) → m ≡ 1 → weight_with_gap m w 0xFFFF ≡ 0xFFFF
highest m w is = subst (λ k. weight_with_gap k w 0xFFFF ≡ 0xFFFF) (sym is) (weight_with_gap-high w 0xFFFF (omega arith))

is_shift : (m : ℕ) (t : ElementTable) (anchor : List Element) (r : Relation) (next : Related) → IsLevel m → AreRanges t.ranges → (h : IsRelated m t anchor r next) → IsShift m (weight m h.how.split.last) t r next
is_shift m t anchor r next l ranges h =
    let w = weight m h.how.split.last in
    let free = h.how.free in
    let moved : h.entered.place.table ≡ table_with_gap m w t = ap (λ p. p.table) h.how.are in
    record {
      entries = λ key other. ap (λ u. elements_at u key) h.entered.table ∙ elements_at-other h.entered.place.table r.item _ key other ∙ ap (λ u. elements_at u key) moved ∙ elements_at-with_gap m w t key;
      increases = λ x y p q less. increasing m w x y (lies_in_gap m w x t l ranges free.large free.table_can_move p) (lies_in_gap m w y t l ranges free.large free.table_can_move q) less;
      none_stays = weight_with_gap-zero m w;
      implicit_stays = λ c. implicit-with_gap m w t.ranges t.ideographs c ranges free.large;
      highest_stays = highest m w;
    }

pub each_shift : EachShiftIsIncreasing
each_shift level t anchor r next table is some e =
    let h = is_related level t anchor r next is some e in
    (h.how.split, h.how.is_split, is_shift level t anchor r next (places_at level r.op is some).level_is table.ranges h)
