-- The weights of a table that is tailored, counted over its items and over the entries that none of them hides.
use Rattle.std.proofs.Common.{if◌then◌else◌, ◌≡◌, ℕ, ◌+◌, ◌-◌, ◌≤◌, ◌<◌, true, false, cond, ◌&&◌, T, min, List, [], ◌∷◌, ◌++◌, length, map, take, get_or, Option, Some, None, is_some, Vec, refl, sym, ap, ap₂, subst, ◌∙◌, arith, inl, inr}
use mathlib.Core.List.{map-append}
use Rattle.std.proofs.lemmas.Bool.{cases_Bool}
use Rattle.std.proofs.lemmas.Cmp.{eq_by_cmp_equiv}
use Rattle.std.proofs.lemmas.List.{take_all, length-map, get_or-map}
use Rattle.std.specs.Cmp.Lexicographic.{slice_cmp, nat_list_cmp_total}
use Rattle.std.specs.FinMap.{find, put, entries, from_entries, is_sorted, entries_sorted, get-entries, get-from_entries, entries-insert, nat_cmp-IsAntisymmetric, slice_cmp-IsAntisymmetric}
use Rattle.std.specs.FinMap.Entries.{below_all}
use Rattle.std.specs.List.{AllByRecursion}
use Rattle.std.specs.List.Sorted.{IsStrictlySortedBy}
use Rattle.std.specs.Map.{keys_of}
use Rattle.std.specs.Option.{option_map}
use Rattle.std.specs.Ordering.{eq_by_cmp, is_eq, is_lt, nat_cmp}
use Rattle.std.specs.declared.cmp.Ordering.{Ordering}
use Rattle.std.specs.declared.cmp.Ordering.TheVariants.{Less, Equal, Greater}
use Rattle.uca_weights.specs.declared.element.Element.{Element}
use Rattle.uca_weights.specs.Element.{weight}
use Rattle.uca_model.specs.Table.{ElementTable, key_cmp}
use Rattle.uca_model.proofs.WeightLemmas.{Fits}
use Rattle.uca_tailor.specs.declared.items.Item.{Item}
use Rattle.uca_tailor.specs.declared.moves.Moves.{Moves}
use Rattle.uca_tailor.specs.declared.moves.Stamp.{Stamp}
use Rattle.uca_tailor.specs.Copy.{cut_entry, item_entries}
use Rattle.uca_tailor.specs.Counting.{count_shown, AreInOrder}
use Rattle.uca_tailor.specs.Counts.{count_at, count_in, AreCapped}
use Rattle.uca_tailor.specs.Moves.{start, moved_element, cut}
use Rattle.uca_tailor.specs.Renumbered.{item_entry, moved_entry, all_entries, renumbered}
use Rattle.uca_tailor.proofs.CopyLemmas.{copied}
use Rattle.uca_tailor.proofs.CountLemmas.{or_none, both_T, less, count-put, count_at-more, entries-from_entries, one_at}
use Rattle.uca_tailor.proofs.RenumberedLemmas.{or_else, find-map, find-over, find-item, item_at}

-- ## Entries of two lists, where those of the first hide those of the second

-- no key occurs twice
abbrev pub AreDistinct : List (List ℕ × List Element) → Type 0
AreDistinct [] = Unit {0}
AreDistinct (e ∷ es) = (find key_cmp e.0 es ≡ None) × AreDistinct es

-- the elements of the second list at keys that the first has not
abbrev pub count_fresh : ℕ → ℕ → List (List ℕ × List Element) → List (List ℕ × List Element) → ℕ
count_fresh level x xs [] = 0
count_fresh level x xs (e ∷ es) = (if is_some (find key_cmp e.0 xs) then 0 else count_at level x e.1) + count_fresh level x xs es

none_hides : (level x : ℕ) (es : List (List ℕ × List Element)) → count_fresh level x [] es ≡ count_in level x es
none_hides level x [] = refl
none_hides level x (e ∷ es) = ap (λ n. count_at level x e.1 + n) (none_hides level x es)

tied : (q k : List ℕ) → eq_by_cmp key_cmp q k ≡ true → q ≡ k
tied q k e = slice_cmp-IsAntisymmetric nat_cmp-IsAntisymmetric q k (by_test (key_cmp q k) e) where
  by_test : (o : Ordering) → is_eq o ≡ true → o ≡ Equal
  by_test Less e = absurd (cc)
  by_test Equal e = refl
  by_test Greater e = absurd (cc)

same_key : (q k : List ℕ) → q ≡ k → eq_by_cmp key_cmp q k ≡ true
same_key q k e = subst (λ p. eq_by_cmp key_cmp q p ≡ true) e ((eq_by_cmp_equiv nat_list_cmp_total).refl q)

turned : (a b : List ℕ) → eq_by_cmp key_cmp a b ≡ false → eq_by_cmp key_cmp b a ≡ false
turned a b other = elim (cases_Bool (eq_by_cmp key_cmp b a)) [
  | inl same ↦ let back : eq_by_cmp key_cmp a b ≡ true = same_key a b (sym (tied b a same)) in absurd (subst T (sym back ∙ other) tt)
  | inr differ ↦ differ
]

-- a key that is below all of some entries is not one of theirs
above_none : (k : List ℕ) (es : List (List ℕ × List Element)) → T (below_all key_cmp k es) → find key_cmp k es ≡ None
above_none k [] h = refl
above_none k (e ∷ es) h = let b = both_T (is_lt (key_cmp k e.0)) (below_all key_cmp k es) h in ap (λ o. cond (is_eq o) (Some e.1) (find key_cmp k es)) (less (key_cmp k e.0) b.0) ∙ above_none k es b.1

-- one more entry in the first list hides what is at its key
hides_one : (level x : ℕ) (a : List ℕ × List Element) (xs ys : List (List ℕ × List Element)) → find key_cmp a.0 xs ≡ None → T (is_sorted key_cmp ys) → count_fresh level x xs ys ≡ count_fresh level x (a ∷ xs) ys + count_at level x (or_none (find key_cmp a.0 ys))
hides_one level x a xs [] none sorted = omega arith
hides_one level x a xs (b ∷ ys) none sorted =
    let parts = both_T (below_all key_cmp b.0 ys) (is_sorted key_cmp ys) sorted in
    let own : ℕ = count_at level x b.1 in
    let later : count_fresh level x xs ys ≡ count_fresh level x (a ∷ xs) ys + count_at level x (or_none (find key_cmp a.0 ys)) = hides_one level x a xs ys none parts.1 in
    elim (cases_Bool (eq_by_cmp key_cmp a.0 b.0)) [
      | inl same ↦
          let key : a.0 ≡ b.0 = tied a.0 b.0 same in
          let kept : (if is_some (find key_cmp b.0 xs) then 0 else own) ≡ own = ap (λ o. if is_some o then 0 else own) (ap (λ k. find key_cmp k xs) (sym key) ∙ none) in
          let gone : (if is_some (cond (eq_by_cmp key_cmp b.0 a.0) (Some a.1) (find key_cmp b.0 xs)) then 0 else own) ≡ 0 = ap (λ t. if is_some (cond t (Some a.1) (find key_cmp b.0 xs)) then 0 else own) (same_key b.0 a.0 (sym key)) in
          let found : count_at level x (or_none (cond (eq_by_cmp key_cmp a.0 b.0) (Some b.1) (find key_cmp a.0 ys))) ≡ own = ap (λ t. count_at level x (or_none (cond t (Some b.1) (find key_cmp a.0 ys)))) same in
          let last : count_at level x (or_none (find key_cmp a.0 ys)) ≡ 0 = ap (λ o. count_at level x (or_none o)) (ap (λ k. find key_cmp k ys) key ∙ above_none b.0 ys parts.0) in
          omega (arith, later, kept, gone, found, last)
      | inr other ↦
          let same : (if is_some (cond (eq_by_cmp key_cmp b.0 a.0) (Some a.1) (find key_cmp b.0 xs)) then 0 else own) ≡ (if is_some (find key_cmp b.0 xs) then 0 else own) = ap (λ t. if is_some (cond t (Some a.1) (find key_cmp b.0 xs)) then 0 else own) (turned a.0 b.0 other) in
          let found : count_at level x (or_none (cond (eq_by_cmp key_cmp a.0 b.0) (Some b.1) (find key_cmp a.0 ys))) ≡ count_at level x (or_none (find key_cmp a.0 ys)) = ap (λ t. count_at level x (or_none (cond t (Some b.1) (find key_cmp a.0 ys)))) other in
          omega (arith, later, same, found)
    ]

-- what is counted over both lists is what is counted over the map of them
count-both : (level x : ℕ) (xs ys : List (List ℕ × List Element)) → AreDistinct xs → T (is_sorted key_cmp ys) → count_in level x (entries (from_entries {R = key_cmp} (xs ++ ys))) ≡ count_in level x xs + count_fresh level x xs ys
count-both level x [] ys distinct sorted = let all : count_in level x (entries (from_entries {R = key_cmp} ys)) ≡ count_in level x ys = ap (count_in level x) (entries-from_entries ys sorted) in omega (arith, all, none_hides level x ys)
count-both level x (a ∷ xs) ys distinct sorted =
    let m = from_entries {R = key_cmp} (xs ++ ys) in
    let later = count-both level x xs ys distinct.1 sorted in
    let entered : count_in level x (entries (from_entries {R = key_cmp} (a ∷ (xs ++ ys)))) ≡ count_in level x (put key_cmp a.0 a.1 (entries m)) = ap (count_in level x) (entries-insert nat_list_cmp_total m a.0 a.1) in
    let counted = count-put level x a.0 a.1 (entries m) (entries_sorted m) in
    let had : find key_cmp a.0 (entries m) ≡ find key_cmp a.0 ys = sym (get-entries m a.0) ∙ get-from_entries nat_list_cmp_total (xs ++ ys) a.0 ∙ find-over a.0 xs ys ∙ ap (λ o. or_else o (find key_cmp a.0 ys)) distinct.0 in
    let before : count_at level x (or_none (find key_cmp a.0 (entries m))) ≡ count_at level x (or_none (find key_cmp a.0 ys)) = ap (λ o. count_at level x (or_none o)) had in
    let hidden = hides_one level x a xs ys distinct.0 sorted in
    omega (arith, later, entered, counted, before, hidden)

-- ## Items, and entries of the given table

no_item_after : {Y : Type 0} (m : Moves) (k : Vec ℕ Y) (items : List (Vec ℕ Y × Item)) → AllByRecursion (λ y. slice_cmp nat_cmp k.items y.items ≡ Less) (keys_of items) → find key_cmp k.items (item_entries m items) ≡ None
no_item_after m k [] all = refl
no_item_after m k (i ∷ items) all = ap (λ o. cond (is_eq o) (Some (map cut (map (moved_element m i.1.after) i.1.elements.items))) (find key_cmp k.items (item_entries m items))) all.0 ∙ no_item_after m k items all.1

distinct_items : {Y : Type 0} (m : Moves) (items : List (Vec ℕ Y × Item)) → AreInOrder items → AreDistinct (item_entries m items)
unfolding IsStrictlySortedBy
distinct_items m [] order = tt
distinct_items m (i ∷ items) order = (no_item_after m i.0 items order.0, distinct_items m items order.1)

abbrev given_entries : Moves → List (List ℕ × List Element) → List (List ℕ × List Element)
given_entries m es = map cut_entry (map (moved_entry m) es)

below-moved : (m : Moves) (k : List ℕ) (es : List (List ℕ × List Element)) → below_all key_cmp k (given_entries m es) ≡ below_all key_cmp k es
below-moved m k [] = refl
below-moved m k (e ∷ es) = ap (λ b. is_lt (key_cmp k e.0) && b) (below-moved m k es)

sorted-moved : (m : Moves) (es : List (List ℕ × List Element)) → is_sorted key_cmp (given_entries m es) ≡ is_sorted key_cmp es
sorted-moved m [] = refl
sorted-moved m (e ∷ es) = ap₂ (λ a b. a && b) (below-moved m e.0 es) (sorted-moved m es)

is_some-map : {A B : Type 0} (f : A → B) (o : Option A) → is_some (option_map f o) ≡ is_some o
is_some-map f None = refl
is_some-map f (Some x) = refl

found_item : {Y : Type 0} (m : Moves) (items : List (Vec ℕ Y × Item)) (q : List ℕ) → is_some (find key_cmp q (item_entries m items)) ≡ is_some (item_at q items)
found_item m items q =
    ap is_some (find-map (map cut) q (map (item_entry m) items)) ∙ is_some-map (map cut) (find key_cmp q (map (item_entry m) items))
    ∙ ap is_some (find-item m items q) ∙ is_some-map (λ (j : Item). map (moved_element m j.after) j.elements.items) (item_at q items)

fresh-shown : {Y : Type 0} (level x : ℕ) (m : Moves) (items : List (Vec ℕ Y × Item)) (es : List (List ℕ × List Element)) → count_fresh level x (item_entries m items) (given_entries m es) ≡ count_shown level x m items es
fresh-shown level x m items [] = refl
fresh-shown level x m items (e ∷ es) = ap₂ (λ b n. (if b then 0 else count_at level x (map cut (map (moved_element m start) e.1))) + n) (found_item m items e.0) (fresh-shown level x m items es)

-- all weights of a table that is tailored
pub count-renumbered : {Y : Type 0} (level x : ℕ) (m : Moves) (items : List (Vec ℕ Y × Item)) (t : ElementTable) → Fits (renumbered m items t) → AreInOrder items
    → count_in level x (entries (renumbered m items t).entries) ≡ count_in level x (item_entries m items) + count_shown level x m items (entries t.entries)
count-renumbered level x m items t fits order =
    let all = map cut_entry (all_entries m items (entries t.entries)) in
    let split : all ≡ item_entries m items ++ given_entries m (entries t.entries) = map-append cut_entry (map (item_entry m) items) (map (moved_entry m) (entries t.entries)) in
    sym (ap (λ (u : ElementTable). count_in level x (entries u.entries)) (copied m items t (from_entries {R = key_cmp} all) fits (λ q. get-from_entries nat_list_cmp_total all q)))
    ∙ ap (λ es. count_in level x (entries (from_entries {R = key_cmp} es))) split
    ∙ count-both level x (item_entries m items) (given_entries m (entries t.entries)) (distinct_items m items order) (subst T (sym (sorted-moved m (entries t.entries))) (entries_sorted t.entries))
    ∙ ap (λ n. count_in level x (item_entries m items) + n) (fresh-shown level x m items (entries t.entries))

-- ## Counts of 32 bits

pub AreCapped-same : (counts : List ℕ) (m n : ℕ → ℕ) → ((x : ℕ) → m x ≡ n x) → AreCapped counts m → AreCapped counts n
AreCapped-same counts m n same capped x h = capped x h ∙ ap (λ k. min k 4294967295) (same x)

-- after a step of a loop that counts elements
pub AreCapped-more : (level i : ℕ) (es : List Element) (d : Element) (w : ℕ) (counts new : List ℕ) (n : ℕ → ℕ) → i < length es → w ≡ weight level (get_or es i d) → ((m : ℕ → ℕ) → AreCapped counts m → AreCapped new (λ x. m x + one_at w x))
    → AreCapped counts (λ x. n x + count_at level x (take i es)) → AreCapped new (λ x. n x + count_at level x (take (i + 1) es))
AreCapped-more level i es d w counts new n h is step capped =
    AreCapped-same new (λ x. n x + count_at level x (take i es) + one_at w x) (λ x. n x + count_at level x (take (i + 1) es))
    (λ x. let e = count_at-more level x i es d h in let f : one_at w x ≡ one_at (weight level (get_or es i d)) x = ap (λ k. one_at k x) is in omega (arith, e, f))
    (step (λ x. n x + count_at level x (take i es)) capped)

pub AreCapped-whole : (level i : ℕ) (es : List Element) (counts : List ℕ) (n : ℕ → ℕ) → length es ≤ i → AreCapped counts (λ x. n x + count_at level x (take i es)) → AreCapped counts (λ x. n x + count_at level x es)
AreCapped-whole level i es counts n h = AreCapped-same counts (λ x. n x + count_at level x (take i es)) (λ x. n x + count_at level x es) (λ x. ap (λ fs. n x + count_at level x fs) (take_all i es h))

-- .. and of one that counts those of items or entries: this many of them all but those that are left
pub AreCapped-next : (counts new : List ℕ) (n all left rest own : ℕ → ℕ) → ((x : ℕ) → left x ≡ own x + rest x) → ((x : ℕ) → left x ≤ all x) → ((m : ℕ → ℕ) → AreCapped counts m → AreCapped new (λ x. m x + own x))
    → AreCapped counts (λ x. n x + (all x - left x)) → AreCapped new (λ x. n x + (all x - rest x))
AreCapped-next counts new n all left rest own is few step capped =
    AreCapped-same new (λ x. n x + (all x - left x) + own x) (λ x. n x + (all x - rest x)) (λ x. let e = is x in let h = few x in omega (arith, e, h)) (step (λ x. n x + (all x - left x)) capped)

-- ## Steps of the loops

moved_at : (m : Moves) (after : Stamp) (es : List Element) (i : ℕ) (d : Element) → i < length es → get_or (map cut (map (moved_element m after) es)) i d ≡ cut (moved_element m after (get_or es i d))
moved_at m after es i d h = get_or-map cut (map (moved_element m after) es) i d d (omega (arith, h, length-map es (moved_element m after))) ∙ ap cut (get_or-map (moved_element m after) es i d d h)

length_moved : (m : Moves) (after : Stamp) (es : List Element) → length (map cut (map (moved_element m after) es)) ≡ length es
length_moved m after es = length-map (map (moved_element m after) es) cut ∙ length-map es (moved_element m after)

-- one more element, as it has moved
pub moved-more : (level i : ℕ) (m : Moves) (after : Stamp) (es : List Element) (d e : Element) (w : ℕ) (counts new : List ℕ) (n : ℕ → ℕ) → i < length es → e ≡ cut (moved_element m after (get_or es i d)) → w ≡ weight level e
    → ((k : ℕ → ℕ) → AreCapped counts k → AreCapped new (λ x. k x + one_at w x)) → AreCapped counts (λ x. n x + count_at level x (take i (map cut (map (moved_element m after) es)))) → AreCapped new (λ x. n x + count_at level x (take (i + 1) (map cut (map (moved_element m after) es))))
moved-more level i m after es d e w counts new n h is at step =
    AreCapped-more level i (map cut (map (moved_element m after) es)) d w counts new n (omega (arith, h, length_moved m after es)) (at ∙ ap (weight level) (is ∙ sym (moved_at m after es i d h))) step

pub moved-whole : (level i : ℕ) (m : Moves) (after : Stamp) (es : List Element) (counts : List ℕ) (n : ℕ → ℕ) → length es ≤ i → AreCapped counts (λ x. n x + count_at level x (take i (map cut (map (moved_element m after) es)))) → AreCapped counts (λ x. n x + count_at level x (map cut (map (moved_element m after) es)))
moved-whole level i m after es counts n h = AreCapped-whole level i (map cut (map (moved_element m after) es)) counts n (omega (arith, h, length_moved m after es))

-- nothing is left
pub AreCapped-end : (counts : List ℕ) (n all left : ℕ → ℕ) → ((x : ℕ) → left x ≡ 0) → AreCapped counts (λ x. n x + (all x - left x)) → AreCapped counts (λ x. n x + all x)
AreCapped-end counts n all left none = AreCapped-same counts (λ x. n x + (all x - left x)) (λ x. n x + all x) (λ x. let e = none x in omega (arith, e))

-- an entry that is hidden, and one that is not
pub shown-hidden : {Y : Type 0} (level x : ℕ) (m : Moves) (items : List (Vec ℕ Y × Item)) (e : List ℕ × List Element) (left rest : List (List ℕ × List Element)) → left ≡ e ∷ rest → is_some (item_at e.0 items) ≡ true → count_shown level x m items left ≡ count_shown level x m items rest
shown-hidden level x m items e left rest is hidden =
    let one : count_shown level x m items left ≡ count_shown level x m items (e ∷ rest) = ap (count_shown level x m items) is in
    let own : (if is_some (item_at e.0 items) then 0 else count_at level x (map cut (map (moved_element m start) e.1))) ≡ 0 = ap (λ b. if b then 0 else count_at level x (map cut (map (moved_element m start) e.1))) hidden in
    omega (arith, one, own)

pub shown-counted : {Y : Type 0} (level x : ℕ) (m : Moves) (items : List (Vec ℕ Y × Item)) (e : List ℕ × List Element) (left rest : List (List ℕ × List Element)) → left ≡ e ∷ rest → is_some (item_at e.0 items) ≡ false
    → count_shown level x m items left ≡ count_at level x (map cut (map (moved_element m start) e.1)) + count_shown level x m items rest
shown-counted level x m items e left rest is shown =
    let one : count_shown level x m items left ≡ count_shown level x m items (e ∷ rest) = ap (count_shown level x m items) is in
    let own : (if is_some (item_at e.0 items) then 0 else count_at level x (map cut (map (moved_element m start) e.1))) ≡ count_at level x (map cut (map (moved_element m start) e.1)) = ap (λ b. if b then 0 else count_at level x (map cut (map (moved_element m start) e.1))) shown in
    omega (arith, one, own)

pub fewer_left : (all left own rest : ℕ) → left ≡ own + rest → left ≤ all → rest ≤ all
fewer_left all left own rest is few = omega (arith, is, few)
