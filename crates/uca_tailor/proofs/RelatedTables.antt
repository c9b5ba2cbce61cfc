-- A relation without a fault turns a table into a table, and its anchor into an anchor.
use Rattle.std.proofs.Common.{◌≡◌, ℕ, ◌+◌, ◌≤◌, false, List, [], ◌∷◌, ◌++◌, length, map, Ok, sym, subst, ◌∙◌, arith, length-append}
use Rattle.std.proofs.lemmas.List.{nil_from_length, length-map}
use Rattle.std.proofs.lemmas.List.Elements.{All-from_recursion, recursion_from_All}
use Rattle.std.specs.Char.{IsScalar}
use Rattle.std.specs.List.{AllByRecursion, list_any}
use Rattle.std.specs.FinMap.Entries.{by_order}
use Rattle.std.specs.declared.cmp.Ordering.{Ordering}
use Rattle.std.specs.declared.cmp.Ordering.TheVariants.{Less, Equal, Greater}
use Rattle.std.specs.Cmp.Lexicographic.{nat_list_cmp_total}
use Rattle.std.specs.FinMap.{FinMap, put, entries, values, from_entries, empty, insert, entries-insert, len-empty, len-entries}
use Rattle.uca_weights.specs.declared.element.Element.{Element}
use Rattle.uca_weights.specs.declared.limits.TheConstants.{MAX_ELEMENTS}
use Rattle.uca_weights.specs.Element.{weight}
use Rattle.uca_model.specs.Table.{ElementTable, IsEntry, IsTable, IsElement, key_cmp}
use Rattle.uca_model.specs.CollationElements.{elements}
use Rattle.uca_model.specs.Rules.{Operator, first, second, third, same}
use Rattle.uca_model.specs.Gap.{with_gap, entry_with_gap, table_with_gap, cannot_move}
use Rattle.uca_model.specs.Tailoring.{TailorCause, raised, Placed, placed}
use Rattle.uca_model.proofs.CharacterLemmas.{scalar-small}
use Rattle.uca_model.proofs.AnchorElements.{or_false}
use Rattle.uca_model.proofs.WeightLemmas.{IsSmall, Fits-IsTable, elements-IsElement, each-append, each-weaker}
use Rattle.uca_tailor.specs.TailoringLaws.{RelatedTablesAreTables}
use Rattle.uca_tailor.proofs.Levels.{IsLevel, level_one, level_two, level_three}
use Rattle.uca_tailor.proofs.ChangedTables.{all_of_none}
use Rattle.uca_tailor.proofs.RelationFacts.{same_ok, IsPlacedAt, is_placed_at, is_entered}
use Rattle.uca_tailor.proofs.FittingWeights.{shifted_fit, base_fits}

-- ## Entries

put_step : (k : List ℕ) (v : List Element) (x : List ℕ × List Element) (es : List (List ℕ × List Element)) (o : Ordering) → IsEntry (k, v) → IsEntry x → AllByRecursion IsEntry es → AllByRecursion IsEntry (put key_cmp k v es)
    → AllByRecursion IsEntry (by_order o ((k, v) ∷ x ∷ es) ((x.0, v) ∷ es) (x ∷ put key_cmp k v es))
put_step k v x es Less p q a b = (p, (q, a))
put_step k v x es Equal p q a b = (record { some_points = q.some_points; few_points = q.few_points; points = q.points; some_elements = p.some_elements; few_elements = p.few_elements; elements = p.elements }, a)
put_step k v x es Greater p q a b = (q, b)

all-put : (k : List ℕ) (v : List Element) (es : List (List ℕ × List Element)) → IsEntry (k, v) → AllByRecursion IsEntry es → AllByRecursion IsEntry (put key_cmp k v es)
all-put k v [] p a = (p, tt)
all-put k v (x ∷ es) p a = put_step k v x es (key_cmp k x.0) p a.0 a.1 (all-put k v es p a.1)

all-insert : (m : FinMap key_cmp (List Element)) (k : List ℕ) (v : List Element) → IsEntry (k, v) → AllByRecursion IsEntry (entries m) → AllByRecursion IsEntry (entries (insert m k v))
all-insert m k v p a = subst (AllByRecursion IsEntry) (sym (entries-insert nat_list_cmp_total m k v)) (all-put k v (entries m) p a)

all-from_entries : (es : List (List ℕ × List Element)) → AllByRecursion IsEntry es → AllByRecursion IsEntry (entries (from_entries {R = key_cmp} es))
all-from_entries [] a = subst (AllByRecursion IsEntry) (sym (nil_from_length (entries (empty {X = List Element} {R = key_cmp})) (sym (len-entries (empty {X = List Element} {R = key_cmp})) ∙ len-empty key_cmp (List Element)))) tt
all-from_entries (e ∷ es) a = all-insert (from_entries {R = key_cmp} es) e.0 e.1 a.0 (all-from_entries es a.1)

-- ## A gap

shifted_entries : (m w : ℕ) (es : List (List ℕ × List Element)) → IsLevel m → list_any (list_any (cannot_move m w)) (map (λ e. e.1) es) ≡ false → AllByRecursion IsEntry es → AllByRecursion IsEntry (map (entry_with_gap m w) es)
shifted_entries m w [] l h a = tt
shifted_entries m w (e ∷ es) l h a =
    let b = or_false (list_any (cannot_move m w) e.1) (list_any (list_any (cannot_move m w)) (map (λ x. x.1) es)) h in
    let whole = a.0 in
    let n : length (map (with_gap m w) e.1) ≡ length e.1 = length-map e.1 (with_gap m w) in (
      record {
        some_points = whole.some_points;
        few_points = whole.few_points;
        points = whole.points;
        some_elements = subst (λ k. 1 ≤ k) (sym n) whole.some_elements;
        few_elements = subst (λ k. k ≤ MAX_ELEMENTS) (sym n) whole.few_elements;
        elements = All-from_recursion IsElement _ (shifted_fit m w e.1 l (all_of_none (cannot_move m w) e.1 b.0) (recursion_from_All IsElement e.1 whole.elements));
      },
      shifted_entries m w es l b.1 a.1,
    )

shifted_is_table : (m w : ℕ) (t : ElementTable) → IsLevel m → list_any (list_any (cannot_move m w)) (values t.entries) ≡ false → IsTable t → IsTable (table_with_gap m w t)
shifted_is_table m w t l h table = record {
  entries = All-from_recursion IsEntry _ (all-from_entries (map (entry_with_gap m w) (entries t.entries)) (shifted_entries m w (entries t.entries) l h (recursion_from_All IsEntry (entries t.entries) table.entries)));
  ranges = table.ranges;
  ideographs = table.ideographs;
}

-- ## Places

record AreFit (p : Placed) : Type 0 where
  table : IsTable p.table
  some : 1 ≤ length p.base
  base : AllByRecursion IsElement p.base

one_more : (xs : List Element) (e : Element) → 1 ≤ length (xs ++ e ∷ [])
one_more xs e = let n : length (xs ++ e ∷ []) ≡ length xs + 1 = length-append xs (e ∷ []) in omega arith

placed_at_level : (m : ℕ) (t : ElementTable) (es : List Element) (p : Placed) → IsLevel m → IsTable t → AllByRecursion IsElement es → IsPlacedAt m t es p → AreFit p
placed_at_level m t es p l table fit h = record {
  table = subst (λ z. IsTable z.table) (sym h.are) (shifted_is_table m (weight m h.split.last) t l h.free.table_can_move table);
  some = subst (λ z. 1 ≤ length z.base) (sym h.are) (one_more (map (with_gap m (weight m h.split.last)) h.split.before) (raised m h.split.last));
  base = base_fits m t es p l h fit;
}

abbrev placed_as : List Element → ElementTable → Placed
placed_as b t = record { base = b; table = t }

placed_fits : (t : ElementTable) (es : List Element) (op : Operator) (p : Placed) → IsTable t → 1 ≤ length es → AllByRecursion IsElement es → placed t es op ≡ Ok p → AreFit p
placed_fits t es first p table some fit e = placed_at_level 1 t es p level_one table fit (is_placed_at 1 t es p e)
placed_fits t es second p table some fit e = placed_at_level 2 t es p level_two table fit (is_placed_at 2 t es p e)
placed_fits t es third p table some fit e = placed_at_level 3 t es p level_three table fit (is_placed_at 3 t es p e)
placed_fits t es same p table some fit e = let is : placed_as es t ≡ p = same_ok {E = TailorCause} _ p e in subst AreFit is (record { table = table; some = some; base = fit })

pub related_tables : RelatedTablesAreTables
related_tables t anchor r next table some fit string item expansion e =
    let h = is_entered t anchor r next e in
    let p = h.place in
    let whole = p.base ++ elements p.table r.expansion in
    let f = placed_fits t anchor r.op p table some fit h.is_place in
    let own : 1 ≤ length p.base = f.some in
    let n : length whole ≡ length p.base + length (elements p.table r.expansion) = length-append p.base (elements p.table r.expansion) in
    let points : AllByRecursion IsSmall r.expansion = each-weaker IsScalar IsSmall scalar-small r.expansion (recursion_from_All IsScalar r.expansion expansion) in
    let entry : IsEntry (r.item, whole) = record {
      some_points = string.item.some;
      few_points = string.item.few;
      points = item;
      some_elements = omega arith;
      few_elements = h.few;
      elements = All-from_recursion IsElement whole (each-append IsElement p.base _ f.base (elements-IsElement p.table r.expansion (Fits-IsTable p.table f.table) points));
    } in (
      subst IsTable (sym h.table) (record { entries = All-from_recursion IsEntry _ (all-insert p.table.entries r.item whole entry (recursion_from_All IsEntry (entries p.table.entries) f.table.entries)); ranges = f.table.ranges; ideographs = f.table.ideographs }),
      subst (λ x. 1 ≤ length x) (sym h.base) f.some,
      subst (AllByRecursion IsElement) (sym h.base) f.base,
    )
