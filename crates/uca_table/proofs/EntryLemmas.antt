-- Tables that lie in a list of entries whose keys rise, and what the last key says of one that is to come after it.
use Rattle.uca_table.proofs.Common.{◌≡◌, ℕ, suc, ◌≤◌, max, T, Bool, true, false, cond, ◌&&◌, ◌||◌, List, [], ◌∷◌, length, fold, map, Option, Some, None, IfSome, option_copied, Bor, refl, sym, ap, subst, ◌∙◌, arith, lit≤, inl, inr, cases_Bool, All, AllByRecursion, Ordering, Less, Equal, Greater, eq_by_cmp, is_lt, ordering_reverse, nat_list_cmp_total, find, put, is_sorted, empty, insert, entries, from_sorted, entries-from_sorted, entries-insert, get-from_sorted, same_entries_map, empty_of_len, len-entries, nat_cmp-IsAntisymmetric, slice_cmp-IsAntisymmetric, by_order, is_sorted-put, All-from_recursion, fold-map, Element, MAX_KEY, Ideographs, Range, AreIdeographs, ElementTable, key_cmp, elements_at, longest, IsEntry, IsTable, with_ideographs, begins_entry, is_front, AreStored, table_of, longest_of, common_steps, ◌<◌, MAX_ELEMENTS, IsElement, ◌++◌, is_some, ne_eqb, le-ltb, or_right, is_eq, FinMap, entries_sorted, get-entries, below_all, last_key, AreAscending, append_fault, has_greater}
use Rattle.uca_keys.proofs.PathLemmas.{front_short}
use Rattle.uca_model.proofs.TableLemmas.{IsEntry-elements_at}
use Rattle.uca_model.proofs.SortedLemmas.{IsAbove, put-above}
use Rattle.uca_table.specs.declared.fault.AppendFault.TheVariants.{OutOfOrder, Repeated}

-- ---- tests

-- an answer that tests as `Less`
pub less : (o : Ordering) → T (is_lt o) → o ≡ Less
less Less h = refl
less Equal h = absurd h
less Greater h = absurd h

-- the first of two tests
pub left : (a b : Bool) → T (a && b) → T a
left true b h = tt
left false b h = h

-- the second of two tests
pub right : (a b : Bool) → T (a && b) → T b
right true b h = h
right false b h = absurd h

-- ---- entries

-- two keys the other way round
pub turned : (x q : List ℕ) (o : Ordering) → key_cmp x q ≡ o → key_cmp q x ≡ ordering_reverse o
turned x q o e = nat_list_cmp_total.antisymm q x ∙ ap ordering_reverse e

-- to put an entry is to insert it
pub from_sorted-put : (es : List (List ℕ × List Element)) (k : List ℕ) (v : List Element) → T (is_sorted key_cmp es) → from_sorted {R = key_cmp} (put key_cmp k v es) ≡ insert (from_sorted es) k v
from_sorted-put es k v sorted =
    let grown : entries (from_sorted {R = key_cmp} (put key_cmp k v es)) ≡ put key_cmp k v es = entries-from_sorted key_cmp (put key_cmp k v es) (is_sorted-put key_cmp nat_list_cmp_total k v es sorted) in
    let inserted : entries (insert (from_sorted {R = key_cmp} es) k v) ≡ put key_cmp k v es = entries-insert nat_list_cmp_total (from_sorted es) k v ∙ ap (put key_cmp k v) (entries-from_sorted key_cmp es sorted) in
    same_entries_map _ _ (grown ∙ sym inserted)

-- of no entry the map is empty
pub from_sorted_none : from_sorted {R = key_cmp} [] ≡ empty {K = List ℕ} {X = List Element} {R = key_cmp}
from_sorted_none = empty_of_len (from_sorted []) (len-entries (from_sorted []) ∙ ap length (entries-from_sorted key_cmp [] tt))

-- what holds of each entry holds with the new one among them
pub all-put : {X : Type 0} (P : List ℕ × X → Type 0) (es : List (List ℕ × X)) (k : List ℕ) (v : X) → P (k, v) → AllByRecursion P es → AllByRecursion P (put key_cmp k v es)
all-put P [] k v new all = (new, tt)
all-put P (e ∷ es) k v new all = elim (key_cmp k e.0) as (λ o. key_cmp k e.0 ≡ o → AllByRecursion P (by_order o ((k, v) ∷ e ∷ es) ((e.0, v) ∷ es) (e ∷ put key_cmp k v es))) [
  | Less ↦ λ is. (new, all)
  | Equal ↦ λ is. (subst (λ q. P (q, v)) (slice_cmp-IsAntisymmetric nat_cmp-IsAntisymmetric k e.0 is) new, all.1)
  | Greater ↦ λ is. (all.0, all-put P es k v new all.1)
] refl

-- one more entry may be there
pub AreStored-put : (es : List (List ℕ × List Element)) (rs : List Range) (k : List ℕ) (v : List Element) → AreStored es rs → IsEntry (k, v) → AreStored (put key_cmp k v es) rs
AreStored-put es rs k v stored new = record { sorted = is_sorted-put key_cmp nat_list_cmp_total k v es stored.sorted; entries = all-put IsEntry es k v new stored.entries; ranges = stored.ranges; by_first = stored.by_first }

-- such a list makes a table
pub IsTable-stored : (es : List (List ℕ × List Element)) (rs : List Range) (added : List Ideographs) → AreStored es rs → AreIdeographs added → IsTable (with_ideographs (table_of es rs) added)
IsTable-stored es rs added stored are = record { entries = subst (λ xs. All IsEntry xs) (sym (entries-from_sorted key_cmp es stored.sorted)) (All-from_recursion IsEntry es stored.entries); ranges = stored.ranges; ideographs = are }

-- the longest key of the table
pub longest_stored : (es : List (List ℕ × List Element)) (rs : List Range) → T (is_sorted key_cmp es) → longest (table_of es rs) ≡ longest_of es
longest_stored es rs sorted = ap (λ (xs : List (List ℕ × List Element)). fold (λ m key. max m (length key)) 1 (map (λ e. e.0) xs)) (entries-from_sorted key_cmp es sorted) ∙ fold-map (λ m key. max m (length key)) (λ e. e.0) 1 es

-- a greatest length is none below the one that it began with
pub fold-some : (n : ℕ) (es : List (List ℕ × List Element)) → n ≤ fold (λ m e. max m (length e.0)) n es
fold-some n [] = omega arith
fold-some n (e ∷ es) = let h : max n (length e.0) ≤ fold (λ m f. max m (length f.0)) (max n (length e.0)) es = fold-some (max n (length e.0)) es in omega arith

-- nor is the greater of it and another
fold-max : (n m : ℕ) (es : List (List ℕ × List Element)) → fold (λ l e. max l (length e.0)) (max n m) es ≡ max (fold (λ l e. max l (length e.0)) n es) m
fold-max n m [] = refl
fold-max n m (e ∷ es) = let swapped : max (max n m) (length e.0) ≡ max (max n (length e.0)) m = omega arith in ap (λ l. fold (λ l f. max l (length f.0)) l es) swapped ∙ fold-max (max n (length e.0)) m es

fold-put : (n : ℕ) (k : List ℕ) (v : List Element) (es : List (List ℕ × List Element)) → fold (λ m e. max m (length e.0)) n (put key_cmp k v es) ≡ max (fold (λ m e. max m (length e.0)) n es) (length k)
fold-put n k v [] = refl
fold-put n k v (e ∷ es) = grind (arith, common_steps, fold-max n (length k) (e ∷ es), fold-some (max n (length e.0)) es, fold-put (max n (length e.0)) k v es, slice_cmp-IsAntisymmetric nat_cmp-IsAntisymmetric k e.0)

-- the longest key with one more
pub longest-put : (k : List ℕ) (v : List Element) (es : List (List ℕ × List Element)) → longest_of (put key_cmp k v es) ≡ max (longest_of es) (length k)
longest-put k v es = fold-put 1 k v es

-- nor is the longest key above the limit of a key
fold-few : (n : ℕ) (es : List (List ℕ × List Element)) → n ≤ MAX_KEY → AllByRecursion IsEntry es → fold (λ m e. max m (length e.0)) n es ≤ MAX_KEY
fold-few n [] h all = h
fold-few n (e ∷ es) h all = let few : length e.0 ≤ MAX_KEY = all.0.few_points in fold-few (max n (length e.0)) es (omega arith) all.1

-- the longest key has 1 to 32 code points
pub longest-bounds : (es : List (List ℕ × List Element)) → AllByRecursion IsEntry es → (1 ≤ longest_of es) × (longest_of es ≤ MAX_KEY)
longest-bounds es all = (fold-some 1 es, fold-few 1 es (lit≤ tt) all)

pub ruleset limits = (common_steps, IsTable-stored, longest-bounds)

-- by which a table has the entries that are stored
pub ruleset stored = (common_steps, entries-from_sorted)

-- what a look-up of a key finds in a table
pub record IsFound (t : ElementTable) (q : List ℕ) (r : Option (Bor (List Element))) : Type 0 where
  pub value : option_copied r ≡ elements_at t q
  pub some : IfSome r (λ es. 0 < length es.now)
  pub few : IfSome r (λ es. length es.now ≤ MAX_ELEMENTS)
  pub elements : IfSome r (λ es. All IsElement es.now)

pub is-found : (t : ElementTable) (q : List ℕ) (r : Option (Bor (List Element))) → IsTable t → option_copied r ≡ elements_at t q → IsFound t q r
is-found t q None is same = record { value = same; some = tt; few = tt; elements = tt }
is-found t q (Some es) is same = let e = IsEntry-elements_at t q es.now is (sym same) in record { value = same; some = e.some_elements; few = e.few_elements; elements = e.elements }

-- and in what is stored
pub found_stored : (es : List (List ℕ × List Element)) (rs : List Range) (added : List Ideographs) (t : ElementTable) (q : List ℕ) (r : Option (Bor (List Element))) → AreStored es rs → AreIdeographs added → with_ideographs (table_of es rs) added ≡ t → option_copied r ≡ find key_cmp q es → IsFound t q r
found_stored es rs added t q r stored are is found = is-found t q r (subst IsTable is (IsTable-stored es rs added stored are)) (found ∙ sym (get-from_sorted key_cmp es q stored.sorted) ∙ ap (λ t. elements_at t q) is)

-- what begins a key is no longer than a key may be
pub begins_short : (es : List (List ℕ × List Element)) (p : List ℕ) → All IsEntry es → begins_entry es p ≡ true → length p ≤ MAX_KEY
begins_short [] p all h = cc
begins_short (e ∷ es) p all h = elim (cases_Bool (is_front p e.0)) [
  | inl here ↦ omega (arith, front_short p e.0 here, (all 0 e (omega arith)).few_points)
  | inr other ↦ begins_short es p (λ i d within. all (suc i) d (omega arith)) (sym (ap (λ b. b || begins_entry es p) other) ∙ h)
]

-- a key below all others is below the last one
below_last : (k : List ℕ) (e : List ℕ × List Element) (es : List (List ℕ × List Element)) → T (below_all key_cmp k (e ∷ es)) → key_cmp k (last_key (e ∷ es)) ≡ Less
below_last k e [] h = less _ (left _ _ h)
below_last k e (f ∷ es) h = below_last k f es (right _ _ h)

-- a key that is not below the last one is above the first
above_first : (key k last : List ℕ) → key_cmp k last ≡ Less → is_lt (key_cmp key last) ≡ false → key_cmp key k ≡ Greater
above_first key k last below h = grind (arith, common_steps, turned, nat_list_cmp_total.trans, nat_list_cmp_total.congr)

some_above_none : (key : List ℕ) → 0 < length key → key_cmp key [] ≡ Greater
some_above_none [] some = absurd (omega arith)
some_above_none (x ∷ key) some = refl

-- some key is greater if the last one is
greater_last : (key : List ℕ) (es : List (List ℕ × List Element)) → 0 < length key → T (is_sorted key_cmp es) → has_greater es key ≡ is_lt (key_cmp key (last_key es))
greater_last key [] some sorted = ap is_lt (sym (some_above_none key some))
greater_last key (e ∷ []) some sorted = grind (arith, common_steps)
greater_last key (e ∷ f ∷ es) some sorted =
    by_last (key_cmp key (last_key (f ∷ es))) (key_cmp key e.0) (has_greater (f ∷ es) key) (greater_last key (f ∷ es) some (right _ _ sorted)) (above_first key e.0 (last_key (f ∷ es)) (below_last e.0 f es (left _ _ sorted))) where
      by_last : (last first : Ordering) (later : Bool) → later ≡ is_lt last → (is_lt last ≡ false → first ≡ Greater) → (is_lt first || later) ≡ is_lt last
      by_last Less first later e h = or_right _ _ e
      by_last Equal first later e h = rw (h refl) e
      by_last Greater first later e h = rw (h refl) e

-- where none is, the key is there if it is the last one
found_last : (key : List ℕ) (es : List (List ℕ × List Element)) → 0 < length key → T (is_sorted key_cmp es) → is_lt (key_cmp key (last_key es)) ≡ false → is_some (find key_cmp key es) ≡ is_eq (key_cmp key (last_key es))
found_last key [] some sorted h = ap is_eq (sym (some_above_none key some))
found_last key (e ∷ []) some sorted h = grind (arith, common_steps)
found_last key (e ∷ f ∷ es) some sorted h = rw (above_first key e.0 (last_key (f ∷ es)) (below_last e.0 f es (left _ _ sorted)) h) (found_last key (f ∷ es) some (right _ _ sorted) h)

-- a key above the last one is above all
above_all : (key : List ℕ) (es : List (List ℕ × List Element)) → T (is_sorted key_cmp es) → key_cmp key (last_key es) ≡ Greater → IsAbove key es
above_all key [] sorted is = tt
above_all key (e ∷ []) sorted is = (is, tt)
above_all key (e ∷ f ∷ es) sorted is = (above_first key e.0 (last_key (f ∷ es)) (below_last e.0 f es (left _ _ sorted)) (ap is_lt is), above_all key (f ∷ es) (right _ _ sorted) is)

-- within the limits the order of the key is the only fault
pub order_fault : (m : FinMap key_cmp (List Element)) (key : List ℕ) (v : List Element) → IsEntry (key, v) → append_fault m key v ≡ by_order (key_cmp key (last_key (entries m))) (Some OutOfOrder) (Some Repeated) None
order_fault m key v is = grind (arith, common_steps, ne_eqb, le-ltb, greater_last, found_last, entries_sorted, get-entries)

-- an entry whose key is above the last one is inserted by appending it
pub from_sorted-push : (es : List (List ℕ × List Element)) (key : List ℕ) (v : List Element) → T (is_sorted key_cmp es) → key_cmp key (last_key es) ≡ Greater → from_sorted {R = key_cmp} (es ++ (key, v) ∷ []) ≡ insert (from_sorted es) key v
from_sorted-push es key v sorted is = rw (← put-above key v es (above_all key es sorted is)) (from_sorted-put es key v sorted)

pub AreAscending-push : (es : List (List ℕ × List Element)) (key : List ℕ) (v : List Element) → AreAscending es → IsEntry (key, v) → key_cmp key (last_key es) ≡ Greater → AreAscending (es ++ (key, v) ∷ [])
AreAscending-push es key v are new is =
    rw (← put-above key v es (above_all key es are.sorted is)) (record { sorted = is_sorted-put key_cmp nat_list_cmp_total key v es are.sorted; entries = all-put IsEntry es key v new are.entries })

below-front : (k : List ℕ) (xs ys : List (List ℕ × List Element)) → T (below_all key_cmp k (xs ++ ys)) → T (below_all key_cmp k xs)
below-front k [] ys h = tt
below-front k (e ∷ xs) ys h = grind (arith, common_steps, below-front k xs ys)

none_below : (key : List ℕ) → 0 < length key → key_cmp [] key ≡ Less
none_below [] some = absurd (omega arith)
none_below (x ∷ key) some = refl

-- the entries before a place in such a list are such a list
pub AreAscending-front : (xs ys : List (List ℕ × List Element)) → AreAscending (xs ++ ys) → AreAscending xs
AreAscending-front [] ys are = record { sorted = tt; entries = tt }
AreAscending-front (e ∷ xs) ys are =
    let later : AreAscending xs = AreAscending-front xs ys (record { sorted = right _ _ are.sorted; entries = are.entries.1 }) in
    record { sorted = grind (arith, common_steps, below-front e.0 xs ys); entries = (are.entries.0, later.entries) }

-- an entry of such a list is as in a table, and has a key above all before it
pub AreAscending-at : (xs : List (List ℕ × List Element)) (e : List ℕ × List Element) (ys : List (List ℕ × List Element)) → AreAscending (xs ++ e ∷ ys) → IsEntry e × (key_cmp (last_key xs) e.0 ≡ Less)
AreAscending-at [] e ys are = (are.entries.0, none_below e.0 are.entries.0.some_points)
AreAscending-at (d ∷ []) e ys are = (are.entries.1.0, less _ (left _ _ (left _ _ are.sorted)))
AreAscending-at (d ∷ f ∷ xs) e ys are = AreAscending-at (f ∷ xs) e ys (record { sorted = right _ _ are.sorted; entries = are.entries.1 })

pub reversed : (key last : List ℕ) → key_cmp last key ≡ ordering_reverse (key_cmp key last)
reversed key last = nat_list_cmp_total.antisymm last key

-- what a push goes by
pub ruleset pushing = (common_steps, from_sorted-push, AreAscending-push, order_fault, reversed, entries-from_sorted)
