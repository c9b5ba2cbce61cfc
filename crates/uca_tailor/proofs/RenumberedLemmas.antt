-- A table whose gaps are made together is the one whose gaps were made one after the other.
use Rattle.std.proofs.Common.{◌≡◌, ℕ, suc, zero, ◌+◌, ◌≤◌, ◌<◌, max, Bool, true, false, cond, ◌||◌, List, [], ◌∷◌, ◌++◌, length, drop, map, flat_map, get_or, unwrap_or, Option, Some, None, is_some, min, Vec, refl, sym, ap, ap₂, subst, ◌∙◌, arith, inl, inr, length-append}
use mathlib.Core.List.{map-append}
use Rattle.std.specs.Prelude.{◌⊎◌}
use Rattle.std.proofs.lemmas.Bool.{cases_Bool, cases_lt, or_right}
use Rattle.std.proofs.lemmas.Cmp.{eq_by_cmp_equiv}
use Rattle.std.proofs.lemmas.List.{drop-append-le, drop_all}
use Rattle.std.specs.BTreeMap.{insert_entry, is_at}
use Rattle.std.specs.Map.{lookup}
use Rattle.std.specs.List.{AllByRecursion, list_any}
use Rattle.std.specs.Option.{option_map}
use Rattle.std.specs.Ordering.{eq_by_cmp, nat_cmp, match_ordering, is_eq}
use Rattle.std.specs.declared.cmp.Ordering.{Ordering}
use Rattle.std.specs.declared.cmp.Ordering.TheVariants.{Less, Equal, Greater}
use Rattle.std.specs.Cmp.Lexicographic.{slice_cmp, nat_list_cmp_total}
use Rattle.std.specs.FinMap.{find, put, get, entries, values, get-entries, get-insert, get-from_entries, same_map, nat_cmp-IsAntisymmetric, slice_cmp-IsAntisymmetric}
use Rattle.std.specs.FinMap.Entries.{by_order, find-put}
use Rattle.std.specs.FinSet.{contains, same_set}
use Rattle.uca_weights.specs.declared.element.Element.{Element}
use Rattle.uca_weights.specs.declared.limits.TheConstants.{MAX_KEY}
use Rattle.uca_weights.specs.Element.{weight}
use Rattle.uca_model.specs.Gap.{moves, weight_with_gap, with_gap, entry_with_gap, table_with_gap, cannot_move}
use Rattle.uca_model.specs.Table.{ElementTable, key_cmp, elements_at, is_key, with_entry, with_ideographs, longest, IsElement, IsKey, IsTable}
use Rattle.uca_model.specs.CollationElements.{step, matches, matches_within, elements, elements_or_implicit}
use Rattle.uca_model.specs.Match as model
use Rattle.uca_model.proofs.RewritingLemmas.{step_some, matches-step}
use Rattle.uca_model.proofs.GapLookups.{elements_at-with_gap}
use Rattle.uca_model.proofs.WeightLemmas.{Fits, Fits-IsTable}
use Rattle.uca_match.specs.Keys.{HasLongest, IsReached, key_set}
use Rattle.uca_match.proofs.KeyLemmas.{contains-key_set, HasLongest-table}
use Rattle.uca_match.specs.Matches.{match_of}
use Rattle.uca_match.specs.declared.matches.Match.{Match}
use Rattle.uca_tailor.specs.declared.counts.Counts.{Counts}
use Rattle.uca_tailor.specs.declared.items.Item.{Item}
use Rattle.uca_tailor.specs.declared.moves.Moves.{Moves}
use Rattle.uca_tailor.specs.declared.moves.Stamp.{Stamp}
use Rattle.uca_tailor.specs.declared.tops.Tops.{Tops}
use Rattle.uca_tailor.specs.Counts.{AreNone, HaveCounts, elements_or_none}
use Rattle.uca_tailor.specs.Moves.{start, now_of, IsPast, with_move, moved_element, cut}
use Rattle.uca_tailor.specs.Renumbered.{item_entry, moved_entry, all_entries, renumbered, IsItem, IsBelow, HasTop, HaveTops, IsRenumbered}
use Rattle.uca_tailor.specs.Shifts.{moved}
use Rattle.uca_tailor.specs.Tops.{raised, HoldsElements, IsAtMost}
use Rattle.uca_tailor.proofs.ChangedTables.{elements_at-same, elements_at-other}
use Rattle.uca_tailor.proofs.CountLemmas.{HaveCounts-none}
use Rattle.uca_tailor.proofs.FittingWeights.{entry_can_move, shifted_entry_fits}
use Rattle.uca_tailor.proofs.LevelOrders.{AllCanMove}
use Rattle.uca_tailor.proofs.Levels.{IsLevel, level_one, level_two, level_three}
use Rattle.uca_tailor.proofs.ShiftLemmas.{moved-append}
use Rattle.uca_tailor.proofs.TopLemmas.{IsBelow-more, raised_weight}

-- the order of a map's keys
abbrev pub vec_cmp : {Y : Type 0} → Vec ℕ Y → Vec ℕ Y → Ordering
vec_cmp x y = slice_cmp nat_cmp x.items y.items

-- ## Look-ups

abbrev pub or_else : {A : Type 0} → Option A → Option A → Option A
or_else (Some x) y = Some x
or_else None y = y

pub find-map : (f : List Element → List Element) (q : List ℕ) (es : List (List ℕ × List Element)) → find key_cmp q (map (λ e. (e.0, f e.1)) es) ≡ option_map f (find key_cmp q es)
find-map f q [] = refl
find-map f q (e ∷ es) = elim (eq_by_cmp key_cmp q e.0) as (λ b. cond b (Some (f e.1)) (find key_cmp q (map (λ e. (e.0, f e.1)) es)) ≡ option_map f (cond b (Some e.1) (find key_cmp q es))) [
  | true ↦ refl
  | false ↦ find-map f q es
]

pub find-over : (q : List ℕ) (xs ys : List (List ℕ × List Element)) → find key_cmp q (xs ++ ys) ≡ or_else (find key_cmp q xs) (find key_cmp q ys)
find-over q [] ys = refl
find-over q (x ∷ xs) ys = elim (eq_by_cmp key_cmp q x.0) as (λ b. cond b (Some x.1) (find key_cmp q (xs ++ ys)) ≡ or_else (cond b (Some x.1) (find key_cmp q xs)) (find key_cmp q ys)) [
  | true ↦ refl
  | false ↦ find-over q xs ys
]

pub elements_at-renumbered : {Y : Type 0} (m : Moves) (items : List (Vec ℕ Y × Item)) (t : ElementTable) (q : List ℕ) → elements_at (renumbered m items t) q ≡ or_else (find key_cmp q (map (item_entry m) items)) (option_map (map (moved_element m start)) (elements_at t q))
elements_at-renumbered m items t q =
    get-from_entries nat_list_cmp_total (all_entries m items (entries t.entries)) q
    ∙ find-over q (map (item_entry m) items) (map (moved_entry m) (entries t.entries))
    ∙ ap (or_else (find key_cmp q (map (item_entry m) items))) (find-map (map (moved_element m start)) q (entries t.entries) ∙ ap (option_map (map (moved_element m start))) (sym (get-entries t.entries q)))

pub same_table : (t u : ElementTable) → t.ranges ≡ u.ranges → t.ideographs ≡ u.ideographs → ((q : List ℕ) → elements_at t q ≡ elements_at u q) → t ≡ u
same_table t u rs added is =
    ap₂ (λ es ranges. record { entries = es; ranges = ranges; ideographs = t.ideographs }) (same_map nat_list_cmp_total (slice_cmp-IsAntisymmetric nat_cmp-IsAntisymmetric) t.entries u.entries is) rs
    ∙ ap (with_ideographs u) added

-- what an item has is found at its key
pub find-item : {Y : Type 0} (m : Moves) (items : List (Vec ℕ Y × Item)) (q : List ℕ)
    → find key_cmp q (map (item_entry m) items) ≡ option_map (λ (i : Item). map (moved_element m i.after) i.elements.items) (lookup (is_at (λ (k : Vec ℕ Y). slice_cmp nat_cmp q k.items)) items)
find-item m [] q = refl
find-item {Y} m (i ∷ items) q = elim (eq_by_cmp key_cmp q i.0.items) as (λ b. cond b (Some (map (moved_element m i.1.after) i.1.elements.items)) (find key_cmp q (map (item_entry m) items)) ≡ option_map (λ (j : Item). map (moved_element m j.after) j.elements.items) (cond b (Some i.1) (lookup (is_at (λ (k : Vec ℕ Y). slice_cmp nat_cmp q k.items)) items))) [
  | true ↦ refl
  | false ↦ find-item m items q
]

-- ## No gap yet

abbrev pub no_moves : Moves
no_moves = record { first = []; second = []; third = [] }

same_elements : (es : List Element) → map (moved_element no_moves start) es ≡ es
same_elements [] = refl
same_elements (e ∷ es) = ap (λ xs. e ∷ xs) (same_elements es)

same_option : (o : Option (List Element)) → option_map (map (moved_element no_moves start)) o ≡ o
same_option None = refl
same_option (Some es) = ap Some (same_elements es)

pub renumbered-none : {Y : Type 0} (t : ElementTable) (items : List (Vec ℕ Y × Item)) → items ≡ [] → renumbered no_moves items t ≡ t
renumbered-none t items none = same_table _ t refl refl (λ q. elements_at-renumbered no_moves items t q ∙ ap (λ is. or_else (find key_cmp q (map (item_entry no_moves) is)) (option_map (map (moved_element no_moves start)) (elements_at t q))) none ∙ same_option (elements_at t q))

-- ## One more gap

moved-later : (level w a : ℕ) (ws : List ℕ) (x : ℕ) → a ≤ length ws → moved level (drop a (ws ++ w ∷ [])) x ≡ weight_with_gap level w (moved level (drop a ws) x)
moved-later level w a ws x h = ap (λ xs. moved level xs x) (drop-append-le a ws (w ∷ []) h) ∙ moved-append level (drop a ws) (w ∷ []) x

element-with : (level w : ℕ) (m : Moves) (after : Stamp) (e : Element) → IsLevel level → IsPast m after → moved_element (with_move level w m) after e ≡ with_gap level w (moved_element m after e)
element-with level w m after e level_one past = ap (λ x. record { starred = e.starred; l1 = x; l2 = moved 2 (drop after.second m.second) e.l2; l3 = moved 3 (drop after.third m.third) e.l3 }) (moved-later 1 w after.first m.first e.l1 past.first)
element-with level w m after e level_two past = ap (λ x. record { starred = e.starred; l1 = moved 1 (drop after.first m.first) e.l1; l2 = x; l3 = moved 3 (drop after.third m.third) e.l3 }) (moved-later 2 w after.second m.second e.l2 past.second)
element-with level w m after e level_three past = ap (λ x. record { starred = e.starred; l1 = moved 1 (drop after.first m.first) e.l1; l2 = moved 2 (drop after.second m.second) e.l2; l3 = x }) (moved-later 3 w after.third m.third e.l3 past.third)

elements-with : (level w : ℕ) (m : Moves) (after : Stamp) (es : List Element) → IsLevel level → IsPast m after → map (moved_element (with_move level w m) after) es ≡ map (with_gap level w) (map (moved_element m after) es)
elements-with level w m after [] l past = refl
elements-with level w m after (e ∷ es) l past = ap₂ (λ x xs. x ∷ xs) (element-with level w m after e l past) (elements-with level w m after es l past)

items-with : {Y : Type 0} (level w : ℕ) (m : Moves) (items : List (Vec ℕ Y × Item)) → IsLevel level → AllByRecursion (λ i. IsItem m i.1) items → map (item_entry (with_move level w m)) items ≡ map (entry_with_gap level w) (map (item_entry m) items)
items-with level w m [] l all = refl
items-with level w m (i ∷ items) l all = ap₂ (λ x xs. (i.0.items, x) ∷ xs) (elements-with level w m i.1.after i.1.elements.items l all.0.past) (items-with level w m items l all.1)

start-past : (m : Moves) → IsPast m start
start-past m = record { first = omega arith; second = omega arith; third = omega arith }

entries-with : (level w : ℕ) (m : Moves) (es : List (List ℕ × List Element)) → IsLevel level → map (moved_entry (with_move level w m)) es ≡ map (entry_with_gap level w) (map (moved_entry m) es)
entries-with level w m [] l = refl
entries-with level w m (e ∷ es) l = ap₂ (λ x xs. (e.0, x) ∷ xs) (elements-with level w m start e.1 l (start-past m)) (entries-with level w m es l)

all-with : {Y : Type 0} (level w : ℕ) (m : Moves) (items : List (Vec ℕ Y × Item)) (es : List (List ℕ × List Element)) → IsLevel level → AllByRecursion (λ i. IsItem m i.1) items → all_entries (with_move level w m) items es ≡ map (entry_with_gap level w) (all_entries m items es)
all-with level w m items es l all = ap₂ (λ xs ys. xs ++ ys) (items-with level w m items l all) (entries-with level w m es l) ∙ sym (map-append (entry_with_gap level w) (map (item_entry m) items) (map (moved_entry m) es))

pub renumbered-with : {Y : Type 0} (level w : ℕ) (m : Moves) (items : List (Vec ℕ Y × Item)) (t : ElementTable) → IsLevel level → AllByRecursion (λ i. IsItem m i.1) items → renumbered (with_move level w m) items t ≡ table_with_gap level w (renumbered m items t)
renumbered-with level w m items t l all = same_table _ _ refl refl (λ q.
    get-from_entries nat_list_cmp_total (all_entries (with_move level w m) items (entries t.entries)) q
    ∙ ap (find key_cmp q) (all-with level w m items (entries t.entries) l all)
    ∙ find-map (map (with_gap level w)) q (all_entries m items (entries t.entries))
    ∙ ap (option_map (map (with_gap level w))) (sym (get-from_entries nat_list_cmp_total (all_entries m items (entries t.entries)) q))
    ∙ sym (elements_at-with_gap level w (renumbered m items t) q))

longer : (b : Bool) (n w : ℕ) (ws : List ℕ) → n ≤ length ws → n ≤ length (cond b (ws ++ w ∷ []) ws)
longer true n w ws h = let e : length (ws ++ w ∷ []) ≡ length ws + 1 = length-append ws (w ∷ []) in omega arith
longer false n w ws h = h

past-with : (level w : ℕ) (m : Moves) (after : Stamp) → IsLevel level → IsPast m after → IsPast (with_move level w m) after
past-with level w m after level_one past = record { first = longer true after.first w m.first past.first; second = past.second; third = past.third }
past-with level w m after level_two past = record { first = past.first; second = longer true after.second w m.second past.second; third = past.third }
past-with level w m after level_three past = record { first = past.first; second = past.second; third = longer true after.third w m.third past.third }

entered-with : {Y : Type 0} (level w : ℕ) (m : Moves) (items : List (Vec ℕ Y × Item)) → IsLevel level → AllByRecursion (λ i. IsItem m i.1) items → AllByRecursion (λ i. IsItem (with_move level w m) i.1) items
entered-with level w m [] l all = tt
entered-with level w m (i ∷ items) l all = (record { past = past-with level w m i.1.after l all.0.past; some = all.0.some }, entered-with level w m items l all.1)

fits-with : (level w : ℕ) (t : ElementTable) → IsLevel level → list_any (list_any (cannot_move level w)) (values t.entries) ≡ false → Fits t → Fits (table_with_gap level w t)
fits-with level w t l room f = record {
  ranges = f.ranges;
  entries = λ key es e. shifted_entry_fits level w t key (elements_at t key) es l f room refl (sym (elements_at-with_gap level w t key) ∙ e);
}

parts_false : (a b : Bool) → (a || b) ≡ false → (a ≡ false) × (b ≡ false)
parts_false true b e = absurd (cc)
parts_false false b e = (refl, e)

both_false : (a b : Bool) → a ≡ false → b ≡ false → (a || b) ≡ false
both_false a b p q = rw (p, q) refl

-- what a gap does to a weight of a level, as far as the tops go
abbrev Raises : ℕ → ℕ → ℕ → ℕ → ℕ → Type 0
Raises level w k top next = (e : Element) → IsElement e → cannot_move level w e ≡ false → moves k top (weight k e) ≡ false → moves k next (weight k (with_gap level w e)) ≡ false

below-with : (level w k top next : ℕ) → Raises level w k top next → (es : List Element) → AllByRecursion IsElement es → AllCanMove level w es → IsBelow k top es → IsBelow k next (map (with_gap level w) es)
below-with level w k top next h [] fit room below = refl
below-with level w k top next h (e ∷ es) fit room below =
    let b = parts_false (moves k top (weight k e)) _ below in
    both_false _ _ (h e fit.0 room.0 b.0) (below-with level w k top next h es fit.1 room.1 b.1)

found-with : (level w k top next : ℕ) (t : ElementTable) (key : List ℕ) (o : Option (List Element)) (es : List Element) → Raises level w k top next → Fits t → list_any (list_any (cannot_move level w)) (values t.entries) ≡ false → HasTop k top t
    → elements_at t key ≡ o → option_map (map (with_gap level w)) o ≡ Some es → IsBelow k next es
found-with level w k top next t key None es h f room below is e = absurd (cc)
found-with level w k top next t key (Some fs) es h f room below is e =
    let found : map (with_gap level w) fs ≡ es = cc in
    subst (IsBelow k next) found (below-with level w k top next h fs (f.entries key fs is) (entry_can_move level w t key fs room is) (below key fs is))

top-with : (level w k top next : ℕ) (t : ElementTable) → Raises level w k top next → Fits t → list_any (list_any (cannot_move level w)) (values t.entries) ≡ false → HasTop k top t → HasTop k next (table_with_gap level w t)
top-with level w k top next t h f room below key es e = found-with level w k top next t key (elements_at t key) es h f room below refl (sym (elements_at-with_gap level w t key) ∙ e)

tops-with : (level w : ℕ) (t : ElementTable) (tops : Tops) → IsLevel level → Fits t → list_any (list_any (cannot_move level w)) (values t.entries) ≡ false → HaveTops tops t → HaveTops (raised level w tops) (table_with_gap level w t)
tops-with level w t tops level_one f room have = record {
  first = top-with 1 w 1 tops.first _ t (λ e fit free below. raised_weight 1 w tops.first e.l1 fit.l1 free below) f room have.first;
  second = top-with 1 w 2 tops.second _ t (λ e fit free below. below) f room have.second;
  third = top-with 1 w 3 tops.third _ t (λ e fit free below. below) f room have.third;
}
tops-with level w t tops level_two f room have = record {
  first = top-with 2 w 1 tops.first _ t (λ e fit free below. below) f room have.first;
  second = top-with 2 w 2 tops.second _ t (λ e fit free below. raised_weight 2 w tops.second e.l2 fit.l2 free below) f room have.second;
  third = top-with 2 w 3 tops.third _ t (λ e fit free below. below) f room have.third;
}
tops-with level w t tops level_three f room have = record {
  first = top-with 3 w 1 tops.first _ t (λ e fit free below. below) f room have.first;
  second = top-with 3 w 2 tops.second _ t (λ e fit free below. below) f room have.second;
  third = top-with 3 w 3 tops.third _ t (λ e fit free below. raised_weight 3 w tops.third e.l3 fit.l3 free below) f room have.third;
}

is_some-map : {A B : Type 0} (f : A → B) (o : Option A) → is_some (option_map f o) ≡ is_some o
is_some-map f None = refl
is_some-map f (Some x) = refl

keys-with : (level w : ℕ) (t : ElementTable) → key_set (table_with_gap level w t) ≡ key_set t
keys-with level w t = same_set nat_list_cmp_total (slice_cmp-IsAntisymmetric nat_cmp-IsAntisymmetric) _ _ (λ q.
    contains-key_set (table_with_gap level w t) q ∙ ap is_some (elements_at-with_gap level w t q) ∙ is_some-map (map (with_gap level w)) (elements_at t q) ∙ sym (contains-key_set t q))

pub IsRenumbered-with : {Y : Type 0} (level w : ℕ) (m : Moves) (items : List (Vec ℕ Y × Item)) (t : ElementTable) (tops : Tops) (old new : Counts) (longest : ℕ) → IsLevel level → list_any (list_any (cannot_move level w)) (values (renumbered m items t).entries) ≡ false
    → ((u : ElementTable) → HaveCounts old u → HaveCounts new (table_with_gap level w u)) → IsRenumbered m items t tops old longest → IsRenumbered (with_move level w m) items t (raised level w tops) new longest
IsRenumbered-with level w m items t tops old new longest l room opens is =
    let same = sym (renumbered-with level w m items t l is.entered) in
    record {
      entered = entered-with level w m items l is.entered;
      fits = subst Fits same (fits-with level w (renumbered m items t) l room is.fits);
      below = subst (HaveTops (raised level w tops)) same (tops-with level w (renumbered m items t) tops l is.fits room is.below);
      counted = subst (HaveCounts new) same (opens (renumbered m items t) is.counted);
      keys = subst (λ u. HasLongest (key_set u) longest) same (subst (λ s. HasLongest s longest) (sym (keys-with level w (renumbered m items t))) is.keys);
    }

-- ## One more item

now-moved : (m : Moves) (es : List Element) → map (moved_element m (now_of m)) es ≡ es
now-moved m [] = refl
now-moved m (e ∷ es) = ap₂ (λ x xs. x ∷ xs) (now_element m e) (now-moved m es) where
  now_element : (m : Moves) (e : Element) → moved_element m (now_of m) e ≡ e
  now_element m e =
      ap (λ ws. record { starred = e.starred; l1 = moved 1 ws e.l1; l2 = moved 2 (drop (length m.second) m.second) e.l2; l3 = moved 3 (drop (length m.third) m.third) e.l3 }) (drop_all (length m.first) m.first (omega arith))
      ∙ ap₂ (λ ws vs. record { starred = e.starred; l1 = e.l1; l2 = moved 2 ws e.l2; l3 = moved 3 vs e.l3 }) (drop_all (length m.second) m.second (omega arith)) (drop_all (length m.third) m.third (omega arith))

items-inserted : {Y : Type 0} (m : Moves) (items : List (Vec ℕ Y × Item)) (k : Vec ℕ Y) (i : Item) → map (item_entry m) (insert_entry vec_cmp items k i) ≡ put key_cmp k.items (map (moved_element m i.after) i.elements.items) (map (item_entry m) items)
items-inserted m [] k i = refl
items-inserted {Y} m (e ∷ items) k i =
    elim (slice_cmp nat_cmp k.items e.0.items) as (λ o. map (item_entry m) (match_ordering o ((k, i) ∷ e ∷ items) ((e.0, i) ∷ items) (e ∷ insert_entry vec_cmp items k i)) ≡ by_order o ((k.items, map (moved_element m i.after) i.elements.items) ∷ item_entry m e ∷ map (item_entry m) items) ((e.0.items, map (moved_element m i.after) i.elements.items) ∷ map (item_entry m) items) (item_entry m e ∷ put key_cmp k.items (map (moved_element m i.after) i.elements.items) (map (item_entry m) items))) [
      | Less ↦ refl
      | Equal ↦ refl
      | Greater ↦ ap (λ xs. item_entry m e ∷ xs) (items-inserted m items k i)
    ]

pub or_else-cond : {A : Type 0} (b : Bool) (x : A) (o p : Option A) → or_else (cond b (Some x) o) p ≡ cond b (Some x) (or_else o p)
or_else-cond true x o p = refl
or_else-cond false x o p = refl

pub renumbered-put : {Y : Type 0} (m : Moves) (items : List (Vec ℕ Y × Item)) (t : ElementTable) (k : Vec ℕ Y) (i : Item) → i.after ≡ now_of m → renumbered m (insert_entry vec_cmp items k i) t ≡ with_entry (renumbered m items t) k.items i.elements.items
renumbered-put m items t k i now = same_table _ _ refl refl (λ q.
    let es : map (moved_element m i.after) i.elements.items ≡ i.elements.items = ap (λ s. map (moved_element m s) i.elements.items) now ∙ now-moved m i.elements.items in
    let rest = option_map (map (moved_element m start)) (elements_at t q) in
    elements_at-renumbered m (insert_entry vec_cmp items k i) t q
    ∙ ap (λ xs. or_else (find key_cmp q xs) rest) (items-inserted m items k i)
    ∙ ap (λ v. or_else (find key_cmp q (put key_cmp k.items v (map (item_entry m) items))) rest) es
    ∙ ap (λ o. or_else o rest) (find-put key_cmp nat_list_cmp_total q k.items i.elements.items (map (item_entry m) items))
    ∙ or_else-cond (eq_by_cmp key_cmp q k.items) i.elements.items (find key_cmp q (map (item_entry m) items)) rest
    ∙ ap (cond (eq_by_cmp key_cmp q k.items) (Some i.elements.items)) (sym (elements_at-renumbered m items t q))
    ∙ sym (get-insert nat_list_cmp_total (renumbered m items t).entries k.items i.elements.items q))

entered-put : {Y : Type 0} (m : Moves) (items : List (Vec ℕ Y × Item)) (k : Vec ℕ Y) (i : Item) → IsItem m i → AllByRecursion (λ j. IsItem m j.1) items → AllByRecursion (λ j. IsItem m j.1) (insert_entry vec_cmp items k i)
entered-put m [] k i new all = (new, tt)
entered-put m (e ∷ items) k i new all =
    elim (slice_cmp nat_cmp k.items e.0.items) as (λ o. AllByRecursion (λ j. IsItem m j.1) (match_ordering o ((k, i) ∷ e ∷ items) ((e.0, i) ∷ items) (e ∷ insert_entry vec_cmp items k i))) [
      | Less ↦ (new, all)
      | Equal ↦ (new, all.1)
      | Greater ↦ (all.0, entered-put m items k i new all.1)
    ]

-- what holds for everything that is found, and for what is added, holds for everything that is found afterwards
found-put : (P : List Element → Type 0) (t : ElementTable) (k : List ℕ) (v : List Element) → P v → ((key : List ℕ) (es : List Element) → elements_at t key ≡ Some es → P es) → (key : List ℕ) (es : List Element) → elements_at (with_entry t k v) key ≡ Some es → P es
found-put P t k v new old key es e = elim (cases_Bool (eq_by_cmp key_cmp key k)) [
  | inl here ↦
      let found : Some v ≡ Some es = sym (elements_at-same t k v key here) ∙ e in
      let value : v ≡ es = cc in subst P value new
  | inr other ↦ old key es (sym (elements_at-other t k v key other) ∙ e)
]

tops-put : (t : ElementTable) (k : List ℕ) (v : List Element) (tops next : Tops) → HoldsElements next v → IsAtMost tops next → HaveTops tops t → HaveTops next (with_entry t k v)
tops-put t k v tops next holds more have = record {
  first = found-put (IsBelow 1 next.first) t k v holds.first (λ key es e. IsBelow-more 1 tops.first next.first es more.first (have.first key es e));
  second = found-put (IsBelow 2 next.second) t k v holds.second (λ key es e. IsBelow-more 2 tops.second next.second es more.second (have.second key es e));
  third = found-put (IsBelow 3 next.third) t k v holds.third (λ key es e. IsBelow-more 3 tops.third next.third es more.third (have.third key es e));
}

contains-put : (t : ElementTable) (k : List ℕ) (v : List Element) (q : List ℕ) → contains (key_set (with_entry t k v)) q ≡ (eq_by_cmp key_cmp q k || contains (key_set t) q)
contains-put t k v q = contains-key_set (with_entry t k v) q ∙ ap is_some (get-insert nat_list_cmp_total t.entries k v q) ∙ either (eq_by_cmp key_cmp q k) ∙ ap (λ b. eq_by_cmp key_cmp q k || b) (sym (contains-key_set t q)) where
  either : (b : Bool) → is_some (cond b (Some v) (get t.entries q)) ≡ (b || is_some (get t.entries q))
  either true = refl
  either false = refl

pub keys-put : (t : ElementTable) (k : List ℕ) (v : List Element) (longest : ℕ) → IsKey k → HasLongest (key_set t) longest → HasLongest (key_set (with_entry t k v)) (max longest (length k))
keys-put t k v longest is has =
    let s = has.some in let f = has.few in let some : 1 ≤ length k = is.some in let few : length k ≤ MAX_KEY = is.few in
    record {
      are_keys = λ q in_it. elim (cases_Bool (eq_by_cmp key_cmp q k)) [
        | inl same ↦ subst IsKey (sym (slice_cmp-IsAntisymmetric nat_cmp-IsAntisymmetric q k (tied q k same))) is
        | inr other ↦ has.are_keys q (sym (ap (λ b. b || contains (key_set t) q) other) ∙ sym (contains-put t k v q) ∙ in_it)
      ];
      each = λ q in_it. elim (cases_Bool (eq_by_cmp key_cmp q k)) [
        | inl same ↦
            let e : q ≡ k = slice_cmp-IsAntisymmetric nat_cmp-IsAntisymmetric q k (tied q k same) in
            let n : length q ≡ length k = ap length e in omega arith
        | inr other ↦ let h : length q ≤ longest = has.each q (sym (ap (λ b. b || contains (key_set t) q) other) ∙ sym (contains-put t k v q) ∙ in_it) in omega arith
      ];
      some = omega arith;
      few = omega arith;
      reached = reached_by (length k) longest (max longest (length k)) refl (record { key = k; has = contains-put t k v k ∙ ap (λ b. b || contains (key_set t) k) ((eq_by_cmp_equiv nat_list_cmp_total).refl k); size = refl }) some has.reached;
    } where
      tied : (q k : List ℕ) → eq_by_cmp key_cmp q k ≡ true → key_cmp q k ≡ Equal
      tied q k e = by_test (key_cmp q k) e where
        by_test : (o : Ordering) → is_eq o ≡ true → o ≡ Equal
        by_test Less e = absurd (cc)
        by_test Equal e = refl
        by_test Greater e = absurd (cc)

      reached_by : (n m both : ℕ) → both ≡ max m n → IsReached (key_set (with_entry t k v)) n → 1 ≤ n → ((m ≡ 1) ⊎ IsReached (key_set t) m) → (both ≡ 1) ⊎ IsReached (key_set (with_entry t k v)) both
      reached_by n m both is new some (inl one) = let e : n ≡ both = omega arith in inr (subst (IsReached (key_set (with_entry t k v))) e new)
      reached_by n m both is new some (inr old) = elim (cases_lt m n) [
        | inl below ↦ let e : n ≡ both = omega arith in inr (subst (IsReached (key_set (with_entry t k v))) e new)
        | inr above ↦ let e : m ≡ both = omega arith in inr (record { key = old.key; has = contains-put t k v old.key ∙ or_right _ _ old.has; size = old.size ∙ e })
      ]

pub IsRenumbered-put : {Y : Type 0} (m : Moves) (items : List (Vec ℕ Y × Item)) (t : ElementTable) (tops next : Tops) (old new : Counts) (longest : ℕ) (k : Vec ℕ Y) (i : Item) → i.after ≡ now_of m → IsItem m i → AllByRecursion IsElement i.elements.items → IsKey k.items
    → HoldsElements next i.elements.items → IsAtMost tops next → (HaveCounts old (renumbered m items t) → HaveCounts new (with_entry (renumbered m items t) k.items i.elements.items)) → IsRenumbered m items t tops old longest → IsRenumbered m (insert_entry vec_cmp items k i) t next new (max longest (length k.items))
IsRenumbered-put m items t tops next old new longest k i now item fit key holds more exchanges is =
    let same = sym (renumbered-put m items t k i now) in
    record {
      entered = entered-put m items k i item is.entered;
      fits = subst Fits same (record { ranges = is.fits.ranges; entries = found-put (AllByRecursion IsElement) (renumbered m items t) k.items i.elements.items fit is.fits.entries });
      below = subst (HaveTops next) same (tops-put (renumbered m items t) k.items i.elements.items tops next holds more is.below);
      counted = subst (HaveCounts new) same (exchanges is.counted);
      keys = subst (λ u. HasLongest (key_set u) (max longest (length k.items))) same (keys-put (renumbered m items t) k.items i.elements.items longest key is.keys);
    }

-- ## Sixteen bits

element-cut : (e : Element) → IsElement e → cut e ≡ e
element-cut e fit =
    let a : min e.l1 65535 ≡ e.l1 = (let h : e.l1 < 65536 = fit.l1 in omega arith) in
    let b : min e.l2 65535 ≡ e.l2 = (let h : e.l2 < 65536 = fit.l2 in omega arith) in
    let c : min e.l3 65535 ≡ e.l3 = (let h : e.l3 < 65536 = fit.l3 in omega arith) in
    ap (λ x. record { starred = e.starred; l1 = x; l2 = min e.l2 65535; l3 = min e.l3 65535 }) a ∙ ap₂ (λ y z. record { starred = e.starred; l1 = e.l1; l2 = y; l3 = z }) b c

pub elements-cut : (es : List Element) → AllByRecursion IsElement es → map cut es ≡ es
elements-cut [] all = refl
elements-cut (e ∷ es) all = ap₂ (λ x xs. x ∷ xs) (element-cut e all.0) (elements-cut es all.1)

-- ## The start

pub given : {Y : Type 0} (m : Moves) (items : List (Vec ℕ Y × Item)) (t : ElementTable) → m ≡ no_moves → items ≡ [] → renumbered m items t ≡ t
given m items t none empty = ap (λ x. renumbered x items t) none ∙ renumbered-none t items empty

pub IsRenumbered-none : {Y : Type 0} (m : Moves) (items : List (Vec ℕ Y × Item)) (t : ElementTable) (tops : Tops) (counts : Counts) (n : ℕ) → m ≡ no_moves → items ≡ [] → IsTable t → HaveTops tops t → AreNone counts → n ≡ longest t → IsRenumbered m items t tops counts n
IsRenumbered-none m items t tops counts n none empty valid have uncounted is =
    let same : renumbered m items t ≡ t = given m items t none empty in
    record {
      entered = subst (AllByRecursion (λ i. IsItem m i.1)) (sym empty) tt;
      fits = subst Fits (sym same) (Fits-IsTable t valid);
      below = subst (HaveTops tops) (sym same) have;
      counted = HaveCounts-none counts (renumbered m items t) uncounted;
      keys = subst (λ u. HasLongest (key_set u) n) (sym same) (subst (HasLongest (key_set t)) (sym is) (HasLongest-table t valid));
    }

pub now-past : (m : Moves) (after : Stamp) → after ≡ now_of m → IsPast m after
now-past m after is = subst (IsPast m) (sym is) (record { first = omega arith; second = omega arith; third = omega arith })

-- ## What is found

abbrev pub item_at : {Y : Type 0} → List ℕ → List (Vec ℕ Y × Item) → Option Item
item_at {Y} q items = lookup (is_at (λ (k : Vec ℕ Y). slice_cmp nat_cmp q k.items)) items

pub entered-found : {Y : Type 0} (m : Moves) (items : List (Vec ℕ Y × Item)) (q : List ℕ) (i : Item) → AllByRecursion (λ j. IsItem m j.1) items → item_at q items ≡ Some i → IsItem m i
entered-found m [] q i all e = absurd (cc)
entered-found m (j ∷ items) q i all e = elim (cases_Bool (eq_by_cmp key_cmp q j.0.items)) [
  | inl here ↦
      let found : Some j.1 ≡ Some i = sym (ap (λ b. cond b (Some j.1) (item_at q items)) here) ∙ e in
      let value : j.1 ≡ i = cc in subst (IsItem m) value all.0
  | inr other ↦ entered-found m items q i all.1 (sym (ap (λ b. cond b (Some j.1) (item_at q items)) other) ∙ e)
]

pub at-item : {Y : Type 0} (m : Moves) (items : List (Vec ℕ Y × Item)) (t : ElementTable) (q : List ℕ) (i : Item) → item_at q items ≡ Some i → elements_at (renumbered m items t) q ≡ Some (map (moved_element m i.after) i.elements.items)
at-item m items t q i found =
    elements_at-renumbered m items t q ∙ ap (λ o. or_else o (option_map (map (moved_element m start)) (elements_at t q))) (find-item m items q ∙ ap (option_map (λ (j : Item). map (moved_element m j.after) j.elements.items)) found)

at-other : {Y : Type 0} (m : Moves) (items : List (Vec ℕ Y × Item)) (t : ElementTable) (q : List ℕ) → item_at q items ≡ None → elements_at (renumbered m items t) q ≡ option_map (map (moved_element m start)) (elements_at t q)
at-other m items t q none =
    elements_at-renumbered m items t q ∙ ap (λ o. or_else o (option_map (map (moved_element m start)) (elements_at t q))) (find-item m items q ∙ ap (option_map (λ (j : Item). map (moved_element m j.after) j.elements.items)) none)

pub at-given : {Y : Type 0} (m : Moves) (items : List (Vec ℕ Y × Item)) (t : ElementTable) (q : List ℕ) (es : List Element) → item_at q items ≡ None → elements_at t q ≡ Some es → elements_at (renumbered m items t) q ≡ Some (map (moved_element m start) es)
at-given m items t q es none found = at-other m items t q none ∙ ap (option_map (map (moved_element m start))) found

pub at-none : {Y : Type 0} (m : Moves) (items : List (Vec ℕ Y × Item)) (t : ElementTable) (q : List ℕ) → item_at q items ≡ None → elements_at t q ≡ None → elements_at (renumbered m items t) q ≡ None
at-none m items t q none absent = at-other m items t q none ∙ ap (option_map (map (moved_element m start))) absent

-- .. and what it has as an entry
pub found_entry : (u v : ElementTable) (q : List ℕ) (es : List Element) → u ≡ v → Fits u → elements_at u q ≡ Some es → map cut es ≡ elements_or_none v q
found_entry u v q es same fits found = elements-cut es (fits.entries q es found) ∙ sym (ap (λ o. unwrap_or o []) found) ∙ ap (λ x. elements_or_none x q) same

pub no_entry : (u v : ElementTable) (q : List ℕ) → u ≡ v → elements_at u q ≡ None → [] ≡ elements_or_none v q
no_entry u v q same none = sym (ap (λ o. unwrap_or o []) none) ∙ ap (λ x. elements_or_none x q) same

pub is_key-renumbered : {Y : Type 0} (m : Moves) (items : List (Vec ℕ Y × Item)) (t u : ElementTable) (q : List ℕ) → renumbered m items t ≡ u → contains (key_set u) q ≡ (is_some (item_at q items) || is_key t q)
is_key-renumbered m items t u q same =
    contains-key_set u q ∙ ap (λ x. is_key x q) (sym same) ∙ ap is_some (elements_at-renumbered m items t q ∙ ap (λ o. or_else o (option_map (map (moved_element m start)) (elements_at t q))) (find-item m items q))
    ∙ either (item_at q items) where
      either : (o : Option Item) → is_some (or_else (option_map (λ (j : Item). map (moved_element m j.after) j.elements.items) o) (option_map (map (moved_element m start)) (elements_at t q))) ≡ (is_some o || is_key t q)
      either None = is_some-map (map (moved_element m start)) (elements_at t q)
      either (Some i) = refl

-- ## Matches

some_matched : (n : ℕ) (k : List ℕ → Bool) (xs : List ℕ) → AllByRecursion (λ (m : model.Match). 0 < length m.code_points) (matches_within n k xs)
unfolding matches_within
some_matched zero k xs = tt
some_matched (suc n) k [] = tt
some_matched (suc n) k (x ∷ xs) = (step_some k (x ∷ xs) (let h : length (x ∷ xs) ≡ suc (length xs) = refl in omega arith), some_matched n k (step k (x ∷ xs)).rest)

some_at : (ms : List Match) (i : ℕ) (d : Match) → AllByRecursion (λ (m : model.Match). 0 < length m.code_points) (map match_of ms) → i < length ms → 0 < length (get_or ms i d).key.items
some_at [] i d all h = absurd (omega arith)
some_at (m ∷ ms) zero d all h = all.0
some_at (m ∷ ms) (suc i) d all h = some_at ms i d all.1 (omega arith)

pub matched_some : (ms : List Match) (k : List ℕ → Bool) (xs : List ℕ) (i : ℕ) (d : Match) → map match_of ms ≡ matches k xs → i < length ms → 0 < length (get_or ms i d).key.items
matched_some ms k xs i d are h = some_at ms i d (subst (AllByRecursion (λ (m : model.Match). 0 < length m.code_points)) (sym are) (some_matched (length xs) k xs)) h

abbrev pub elements_by : ElementTable → List Match → List Element
elements_by t ms = flat_map (λ (m : model.Match). elements_or_implicit t m.code_points) (map match_of ms)

pub elements_by-keys : (t : ElementTable) (ms : List Match) (xs : List ℕ) → map match_of ms ≡ matches (contains (key_set t)) xs → elements_by t ms ≡ elements t xs
elements_by-keys t ms xs are = ap (flat_map (λ (m : model.Match). elements_or_implicit t m.code_points)) (are ∙ (λ i. matches (λ key. contains-key_set t key i) xs))

pub some_matches : (k : List ℕ → Bool) (ms : List Match) (xs : List ℕ) → map match_of ms ≡ matches k xs → 0 < length xs → 0 < length ms
some_matches k [] [] are h = absurd (omega arith)
some_matches k [] (x ∷ xs) are h = absurd (let e : [] ≡ (step k (x ∷ xs)).matched ∷ matches k (step k (x ∷ xs)).rest = are ∙ matches-step k x xs in cc)
some_matches k (m ∷ ms) xs are h = omega arith
