-- The entries of a tailored table are written one after the other.
use Rattle.std.proofs.Common.{◌≡◌, ℕ, zero, suc, ◌+◌, ◌≤◌, ◌<◌, ◌==◌, nat_lt, Bool, true, false, cond, List, [], ◌∷◌, ◌++◌, length, take, drop, map, get_or, Option, Some, None, is_some, Vec, Bor, refl, sym, ap, ap₂, subst, ◌∙◌, append_assoc, append-nil, arith}
use mathlib.Core.List.{map-append}
use Rattle.std.proofs.lemmas.List.{get_or-map, take_all, take_more, length-map}
use Rattle.std.proofs.lemmas.List.Sums.{prefix_len-drop_no, prefix_len-drop_yes}
use Rattle.std.specs.List.{AllByRecursion, prefix_len}
use Rattle.std.specs.Option.{option_map}
use Rattle.std.specs.Ordering.{eq_by_cmp, is_eq}
use Rattle.std.specs.declared.cmp.Ordering.{Ordering}
use Rattle.std.specs.declared.cmp.Ordering.TheVariants.{Less, Equal, Greater}
use Rattle.std.specs.Cmp.Lexicographic.{nat_list_cmp_total}
use Rattle.std.specs.FinMap.{FinMap, contains_key, find, get, entries, insert, get-insert, get-empty, get-from_entries, empty}
use Rattle.std.specs.FinMap.Entries.{find-append, find_tied}
use Rattle.uca_weights.specs.declared.element.Element.{Element}
use Rattle.uca_weights.specs.declared.limits.TheConstants.{MAX_KEY, MAX_ELEMENTS}
use Rattle.uca_model.specs.Table.{ElementTable, key_cmp, elements_at}
use Rattle.uca_model.proofs.WeightLemmas.{Fits}
use Rattle.uca_table.specs.Ascending.{append_fault, has_greater}
use Rattle.uca_table.specs.declared.fault.AppendFault.TheVariants.{EmptyKey, KeyTooLong, NoElement, TooManyElements, OutOfOrder, Repeated}
use Rattle.uca_tailor.specs.declared.items.Item.{Item}
use Rattle.uca_tailor.specs.declared.moves.Moves.{Moves}
use Rattle.uca_tailor.specs.Copy.{cut_entry, entered_item, is_up_to, item_entries, Holds}
use Rattle.uca_tailor.specs.Moves.{start, moved_element, cut}
use Rattle.uca_tailor.specs.Renumbered.{item_entry, moved_entry, all_entries, renumbered, IsItem}
use Rattle.uca_tailor.proofs.RenumberedLemmas.{or_else, or_else-cond, find-over, find-map, same_table, elements-cut}

none_from : {A : Type 0} (o : Option A) → is_some o ≡ false → o ≡ None
none_from None e = refl
none_from (Some x) e = absurd (cc)

pub Holds-none : (m : FinMap key_cmp (List Element)) → m ≡ empty → Holds m []
Holds-none m is q = ap (λ n. get n q) is ∙ get-empty key_cmp q

tied : (q k : List ℕ) → eq_by_cmp key_cmp q k ≡ true → key_cmp q k ≡ Equal
tied q k e = by_test (key_cmp q k) e where
  by_test : (o : Ordering) → is_eq o ≡ true → o ≡ Equal
  by_test Less e = absurd (cc)
  by_test Equal e = refl
  by_test Greater e = absurd (cc)

first_wins : {A : Type 0} (o p : Option A) → is_some o ≡ true → or_else o p ≡ o
first_wins None p e = absurd (cc)
first_wins (Some x) p e = refl

or_none : {A : Type 0} (o : Option A) → or_else o None ≡ o
or_none None = refl
or_none (Some x) = refl

hidden : (b : Bool) (q k : List ℕ) (xs : List (List ℕ × List Element)) (v : List Element) → eq_by_cmp key_cmp q k ≡ b → is_some (find key_cmp k xs) ≡ true → or_else (find key_cmp q xs) (cond b (Some v) None) ≡ find key_cmp q xs
hidden true q k xs v e some = first_wins (find key_cmp q xs) (Some v) (ap is_some (sym (find_tied key_cmp nat_list_cmp_total q k (tied q k e) xs)) ∙ some)
hidden false q k xs v e some = or_none (find key_cmp q xs)

-- a new entry after others, and before some that are no nearer to the front
pub Holds-between : (m n : FinMap key_cmp (List Element)) (xs es : List (List ℕ × List Element)) (k : List ℕ) (v : List Element) → Holds m (xs ++ es) → contains_key m k ≡ false → n ≡ insert m k v → Holds n ((xs ++ (k, v) ∷ []) ++ es)
Holds-between m n xs es k v holds fresh is q =
    let absent : find key_cmp k xs ≡ None = none_first (find key_cmp k xs) (find key_cmp k es) (sym (find-over k xs es) ∙ sym (holds k) ∙ none_from (get m k) fresh) in
    ap (λ t. get t q) is ∙ get-insert nat_list_cmp_total m k v q ∙ ap (cond (eq_by_cmp key_cmp q k) (Some v)) (holds q ∙ find-over q xs es)
    ∙ sym (find-over q (xs ++ (k, v) ∷ []) es ∙ ap (λ o. or_else o (find key_cmp q es)) (find-append key_cmp nat_list_cmp_total xs k v q absent) ∙ or_else-cond (eq_by_cmp key_cmp q k) v (find key_cmp q xs) (find key_cmp q es)) where
      none_first : (o p : Option (List Element)) → or_else o p ≡ None → o ≡ None
      none_first None p e = refl
      none_first (Some x) p e = absurd (cc)

-- a new entry after all others
pub Holds-last : (m n : FinMap key_cmp (List Element)) (xs : List (List ℕ × List Element)) (k : List ℕ) (v : List Element) → Holds m xs → contains_key m k ≡ false → n ≡ insert m k v → Holds n (xs ++ (k, v) ∷ [])
Holds-last m n xs k v holds fresh is q =
    ap (λ t. get t q) is ∙ get-insert nat_list_cmp_total m k v q ∙ ap (cond (eq_by_cmp key_cmp q k) (Some v)) (holds q)
    ∙ sym (find-append key_cmp nat_list_cmp_total xs k v q (sym (holds k) ∙ none_from (get m k) fresh))

-- an entry that another one hides
pub Holds-hidden : (m : FinMap key_cmp (List Element)) (xs : List (List ℕ × List Element)) (k : List ℕ) (v : List Element) → Holds m xs → contains_key m k ≡ true → Holds m (xs ++ (k, v) ∷ [])
Holds-hidden m xs k v holds known q = holds q ∙ sym (find-over q xs ((k, v) ∷ []) ∙ hidden (eq_by_cmp key_cmp q k) q k xs v refl (ap is_some (sym (holds k)) ∙ known))

-- ## Items and entries side by side

-- one item more
pub one_item : {Y : Type 0} (m : Moves) (items : List (Vec ℕ Y × Item)) (i : ℕ) (d : Vec ℕ Y × Item) → i < length items → item_entries m (take (i + 1) items) ≡ item_entries m (take i items) ++ cut_entry (item_entry m (get_or items i d)) ∷ []
one_item m items i d h =
    ap (item_entries m) (take_more items i d h) ∙ ap (map cut_entry) (map-append (item_entry m) (take i items) (get_or items i d ∷ [])) ∙ map-append cut_entry (map (item_entry m) (take i items)) (item_entry m (get_or items i d) ∷ [])

-- the items and entries that were appended, among all
pub record Merges {Y : Type 0} (n : FinMap key_cmp (List Element)) (m : Moves) (items : List (Vec ℕ Y × Item)) (at : ℕ) (all rest : List (List ℕ × List Element)) : Type 0 where
  pub front : List (List ℕ × List Element)
  pub split : all ≡ front ++ rest
  pub holds : Holds n (item_entries m (take at items) ++ map cut_entry (map (moved_entry m) front))

pub Merges-none : {Y : Type 0} (n : FinMap key_cmp (List Element)) (m : Moves) (items : List (Vec ℕ Y × Item)) (all now : List (List ℕ × List Element)) → n ≡ empty → now ≡ all → Merges n m items 0 all now
Merges-none n m items all now none is = record { front = []; split = sym is; holds = Holds-none n none }

pub Merges-items : {Y : Type 0} (n o : FinMap key_cmp (List Element)) (m : Moves) (items : List (Vec ℕ Y × Item)) (at to : ℕ) (all rest : List (List ℕ × List Element))
    → ((es : List (List ℕ × List Element)) → Holds n (item_entries m (take at items) ++ es) → Holds o (item_entries m (take to items) ++ es)) → Merges n m items at all rest → Merges o m items to all rest
Merges-items n o m items at to all rest more merges = record { front = merges.front; split = merges.split; holds = more (map cut_entry (map (moved_entry m) merges.front)) merges.holds }

pub Merges-entry : {Y : Type 0} (n o : FinMap key_cmp (List Element)) (m : Moves) (items : List (Vec ℕ Y × Item)) (at : ℕ) (all rest now : List (List ℕ × List Element)) (x : List ℕ × List Element) (k : List ℕ) (v : List Element) → now ≡ x ∷ rest → k ≡ x.0 → v ≡ map cut (map (moved_element m start) x.1)
    → ((es : List (List ℕ × List Element)) → Holds n es → Holds o (es ++ (k, v) ∷ [])) → Merges n m items at all now → Merges o m items at all rest
Merges-entry n o m items at all rest now x k v is key value more merges =
    let items_first = item_entries m (take at items) in let others = map cut_entry (map (moved_entry m) merges.front) in
    let grown : map cut_entry (map (moved_entry m) (merges.front ++ x ∷ [])) ≡ others ++ cut_entry (moved_entry m x) ∷ [] = ap (map cut_entry) (map-append (moved_entry m) merges.front (x ∷ [])) ∙ map-append cut_entry (map (moved_entry m) merges.front) (moved_entry m x ∷ []) in
    record {
      front = merges.front ++ x ∷ [];
      split = merges.split ∙ ap (λ r. merges.front ++ r) is ∙ sym (append_assoc merges.front (x ∷ []) rest);
      holds = subst (Holds o) (append_assoc items_first others ((k, v) ∷ []) ∙ ap (λ ys. items_first ++ ys) (ap₂ (λ a e. others ++ (a, e) ∷ []) key value ∙ sym grown)) (more (items_first ++ others) merges.holds);
    }

pub Merges-all : {Y : Type 0} (n : FinMap key_cmp (List Element)) (m : Moves) (items : List (Vec ℕ Y × Item)) (at : ℕ) (all now : List (List ℕ × List Element)) → now ≡ [] → length items ≤ at → Merges n m items at all now → Holds n (map cut_entry (all_entries m items all))
Merges-all n m items at all now none past merges =
    let front : all ≡ merges.front = merges.split ∙ ap (λ r. merges.front ++ r) none ∙ append-nil merges.front in
    subst (Holds n)
    (ap (λ is. item_entries m is ++ map cut_entry (map (moved_entry m) merges.front)) (take_all at items past) ∙ ap (λ xs. item_entries m items ++ map cut_entry (map (moved_entry m) xs)) (sym front) ∙ sym (map-append cut_entry (map (item_entry m) items) (map (moved_entry m) all)))
    merges.holds

-- ## The whole table

cut_found : (u : ElementTable) (q : List ℕ) (o : Option (List Element)) → Fits u → elements_at u q ≡ o → option_map (map cut) o ≡ o
cut_found u q None fits is = refl
cut_found u q (Some es) fits is = ap Some (elements-cut es (fits.entries q es is))

pub copied : {Y : Type 0} (m : Moves) (items : List (Vec ℕ Y × Item)) (t : ElementTable) (n : FinMap key_cmp (List Element)) → Fits (renumbered m items t) → Holds n (map cut_entry (all_entries m items (entries t.entries))) → record { entries = n; ranges = t.ranges; ideographs = t.ideographs } ≡ renumbered m items t
copied m items t n fits holds = same_table _ _ refl refl (λ q.
    holds q ∙ find-map (map cut) q (all_entries m items (entries t.entries))
    ∙ ap (option_map (map cut)) (sym (get-from_entries nat_list_cmp_total (all_entries m items (entries t.entries)) q))
    ∙ cut_found (renumbered m items t) q _ fits refl)

-- a key that may come next is new
pub appended_is_fresh : (m : FinMap key_cmp (List Element)) (k : List ℕ) (v : List Element) → append_fault m k v ≡ None → contains_key m k ≡ false
appended_is_fresh m k v none = by_tests (length k == 0) (nat_lt MAX_KEY (length k)) (length v == 0) (nat_lt MAX_ELEMENTS (length v)) (has_greater (entries m) k) (contains_key m k) none where
  by_tests : (a b c d e f : Bool) → cond a (Some EmptyKey) (cond b (Some KeyTooLong) (cond c (Some NoElement) (cond d (Some TooManyElements) (cond e (Some OutOfOrder) (cond f (Some Repeated) None))))) ≡ None → f ≡ false
  by_tests true b c d e f h = absurd (cc)
  by_tests false true c d e f h = absurd (cc)
  by_tests false false true d e f h = absurd (cc)
  by_tests false false false true e f h = absurd (cc)
  by_tests false false false false true f h = absurd (cc)
  by_tests false false false false false true h = absurd (cc)
  by_tests false false false false false false h = refl

-- and one that is refused for being known is not
pub repeated_is_known : (m : FinMap key_cmp (List Element)) (k : List ℕ) (v : List Element) → append_fault m k v ≡ Some Repeated → contains_key m k ≡ true
repeated_is_known m k v some = by_tests (length k == 0) (nat_lt MAX_KEY (length k)) (length v == 0) (nat_lt MAX_ELEMENTS (length v)) (has_greater (entries m) k) (contains_key m k) some where
  by_tests : (a b c d e f : Bool) → cond a (Some EmptyKey) (cond b (Some KeyTooLong) (cond c (Some NoElement) (cond d (Some TooManyElements) (cond e (Some OutOfOrder) (cond f (Some Repeated) None))))) ≡ Some Repeated → f ≡ true
  by_tests true b c d e f h = absurd (cc)
  by_tests false true c d e f h = absurd (cc)
  by_tests false false true d e f h = absurd (cc)
  by_tests false false false true e f h = absurd (cc)
  by_tests false false false false true f h = absurd (cc)
  by_tests false false false false false true h = refl
  by_tests false false false false false false h = absurd (cc)

-- the item at a place
pub entered_at : {Y : Type 0} (m : Moves) (items : List (Bor (Vec ℕ Y) × Bor Item)) (i : ℕ) (d : Bor (Vec ℕ Y) × Bor Item) → AllByRecursion (λ e. IsItem m e.1) (map entered_item items) → i < length items → IsItem m (get_or items i d).1.now
entered_at m [] i d all h = absurd (omega arith)
entered_at m (x ∷ items) zero d all h = all.0
entered_at m (x ∷ items) (suc i) d all h = entered_at m items i d all.1 (omega arith)

-- the items from a place on begin with one more that has a key or a smaller one
pub one_up_to : {Y : Type 0} (key : List ℕ) (items : List (Bor (Vec ℕ Y) × Bor Item)) (i : ℕ) (d : Bor (Vec ℕ Y) × Bor Item) → i < length items → is_up_to key (entered_item (get_or items i d)) ≡ true
    → i + prefix_len (is_up_to key) (drop i (map entered_item items)) ≡ i + 1 + prefix_len (is_up_to key) (drop (i + 1) (map entered_item items))
one_up_to key items i d h is =
    let n : length (map entered_item items) ≡ length items = length-map items entered_item in
    let more : prefix_len (is_up_to key) (drop i (map entered_item items)) ≡ 1 + prefix_len (is_up_to key) (drop (i + 1) (map entered_item items)) =
    prefix_len-drop_yes (is_up_to key) (map entered_item items) i (entered_item d) (omega arith) (ap (is_up_to key) (get_or-map entered_item items i d (entered_item d) h) ∙ is) in
    omega arith

-- they begin with none
pub none_up_to : {Y : Type 0} (key : List ℕ) (items : List (Bor (Vec ℕ Y) × Bor Item)) (i : ℕ) (d : Bor (Vec ℕ Y) × Bor Item) → i < length items → is_up_to key (entered_item (get_or items i d)) ≡ false
    → prefix_len (is_up_to key) (drop i (map entered_item items)) ≡ 0
none_up_to key items i d h is =
    let n : length (map entered_item items) ≡ length items = length-map items entered_item in
    prefix_len-drop_no (is_up_to key) (map entered_item items) i (entered_item d) (omega arith) (ap (is_up_to key) (get_or-map entered_item items i d (entered_item d) h) ∙ is)

-- one item more
pub one_entered : {Y : Type 0} (m : Moves) (items : List (Bor (Vec ℕ Y) × Bor Item)) (i : ℕ) (d : Bor (Vec ℕ Y) × Bor Item) (k : List ℕ) (v : List Element) → i < length items → k ≡ (get_or items i d).0.now.items → v ≡ map cut (map (moved_element m (get_or items i d).1.now.after) (get_or items i d).1.now.elements.items)
    → item_entries m (take i (map entered_item items)) ++ (k, v) ∷ [] ≡ item_entries m (take (i + 1) (map entered_item items))
one_entered m items i d k v h key value =
    ap₂ (λ a e. item_entries m (take i (map entered_item items)) ++ (a, e) ∷ []) key value
    ∙ sym (one_item m (map entered_item items) i (entered_item d) (let n : length (map entered_item items) ≡ length items = length-map items entered_item in omega arith)
    ∙ ap (λ e. item_entries m (take i (map entered_item items)) ++ cut_entry (item_entry m e) ∷ []) (get_or-map entered_item items i d (entered_item d) h))
