-- How many elements have each weight, when a gap is made and entries are added.
use Rattle.std.proofs.Common.{◌≡◌, ℕ, suc, zero, ◌+◌, ◌≤◌, ◌<◌, nat_lt, Bool, true, false, cond, ◌||◌, ◌&&◌, ◌==◌, T, if◌then◌else◌, List, [], ◌∷◌, ◌++◌, length, take, drop, map, get_or, slice_index, Option, Some, None, unwrap_or, Vec, refl, sym, ap, ap₂, subst, ◌∙◌, arith, inl, inr}
use Rattle.std.proofs.lemmas.Bool.{cases_lt}
use Rattle.std.proofs.lemmas.Bool.Decides.{nat_tests}
use Rattle.std.proofs.lemmas.List.{take_more, take_all, drop_more, drop_all, with_items_is}
use Rattle.std.specs.List.{list_any}
use Rattle.std.specs.Vec.{with_items}
use Rattle.std.specs.declared.cmp.Ordering.{Ordering}
use Rattle.std.specs.declared.cmp.Ordering.TheVariants.{Less, Equal, Greater}
use Rattle.std.specs.Cmp.Lexicographic.{nat_list_cmp_total}
use Rattle.std.specs.Ordering.{is_eq, is_lt}
use Rattle.std.specs.FinMap.{find, put, entries, values, from_entries, from_sorted, is_sorted, entries_sorted, get-entries, get-from_entries, get-from_sorted, entries-from_sorted, entries-insert, same_map, nat_cmp-IsAntisymmetric, slice_cmp-IsAntisymmetric}
use Rattle.std.specs.FinMap.Entries.{below_all, by_order}
use Rattle.uca_weights.specs.declared.element.Element.{Element}
use Rattle.uca_weights.specs.Element.{weight}
use Rattle.uca_model.specs.Gap.{moves, weight_with_gap, with_gap, entry_with_gap, table_with_gap, cannot_move, max_weight}
use Rattle.uca_model.specs.Table.{ElementTable, key_cmp, with_entry}
use Rattle.uca_tailor.specs.Counts.{count_at, count_in, Reach, Opens, AreCounts, AreNone, HaveCounts, elements_or_none, reaches_limit}
use Rattle.uca_tailor.specs.declared.counts.Counts.{Counts}
use Rattle.uca_tailor.proofs.Levels.{IsLevel, weight-with_gap}

-- one where two weights are the same
abbrev pub one_at : ℕ → ℕ → ℕ
one_at y x = if y == x then 1 else 0

-- ## Counts

pub Reach-same : (counts : List ℕ) (m n : ℕ → ℕ) → ((x : ℕ) → m x ≡ n x) → Reach counts m → Reach counts n
Reach-same counts m n same reach x h low = reach x h low ∙ same x

count_at-append : (level x : ℕ) (es fs : List Element) → count_at level x (es ++ fs) ≡ count_at level x es + count_at level x fs
count_at-append level x [] fs = omega arith
count_at-append level x (e ∷ es) fs = let h = count_at-append level x es fs in omega (arith, h)

pub count_at-more : (level x i : ℕ) (es : List Element) (d : Element) → i < length es → count_at level x (take (i + 1) es) ≡ count_at level x (take i es) + one_at (weight level (get_or es i d)) x
count_at-more level x i es d h =
    let e = ap (count_at level x) (take_more es i d h) ∙ count_at-append level x (take i es) (get_or es i d ∷ []) in omega (arith, e)

-- the counts after a step of a loop that counts elements
pub Reach-more : (level i : ℕ) (es : List Element) (d : Element) (w : ℕ) (counts new : List ℕ) (n : ℕ → ℕ) → i < length es → w ≡ weight level (get_or es i d) → ((m : ℕ → ℕ) → Reach counts m → Reach new (λ x. m x + one_at w x))
    → Reach counts (λ x. n x + count_at level x (take i es)) → Reach new (λ x. n x + count_at level x (take (i + 1) es))
Reach-more level i es d w counts new n h is step reach =
    Reach-same new (λ x. n x + count_at level x (take i es) + one_at w x) (λ x. n x + count_at level x (take (i + 1) es))
    (λ x. let e = count_at-more level x i es d h in let f : one_at w x ≡ one_at (weight level (get_or es i d)) x = ap (λ k. one_at k x) is in omega (arith, e, f))
    (step (λ x. n x + count_at level x (take i es)) reach)

pub Reach-whole : (level i : ℕ) (es : List Element) (counts : List ℕ) (n : ℕ → ℕ) → length es ≤ i → Reach counts (λ x. n x + count_at level x (take i es)) → Reach counts (λ x. n x + count_at level x es)
Reach-whole level i es counts n h = Reach-same counts (λ x. n x + count_at level x (take i es)) (λ x. n x + count_at level x es) (λ x. ap (λ fs. n x + count_at level x fs) (take_all i es h))

-- and of one that counts them no more
pub Reach-less : (level i : ℕ) (es : List Element) (d : Element) (w : ℕ) (counts new : List ℕ) (n : ℕ → ℕ) → i < length es → w ≡ weight level (get_or es i d) → ((m : ℕ → ℕ) → Reach counts (λ x. m x + one_at w x) → Reach new m)
    → Reach counts (λ x. n x + count_at level x (drop i es)) → Reach new (λ x. n x + count_at level x (drop (i + 1) es))
Reach-less level i es d w counts new n h is step reach =
    step (λ x. n x + count_at level x (drop (i + 1) es))
    (Reach-same counts (λ x. n x + count_at level x (drop i es)) (λ x. n x + count_at level x (drop (i + 1) es) + one_at w x)
    (λ x. let e : count_at level x (drop i es) ≡ one_at (weight level (get_or es i d)) x + count_at level x (drop (i + 1) es) = ap (count_at level x) (drop_more es i d h) in let f : one_at w x ≡ one_at (weight level (get_or es i d)) x = ap (λ k. one_at k x) is in omega (arith, e, f))
    reach)

pub Reach-end : (level i : ℕ) (es : List Element) (counts : List ℕ) (n : ℕ → ℕ) → length es ≤ i → Reach counts (λ x. n x + count_at level x (drop i es)) → Reach counts n
Reach-end level i es counts n h = Reach-same counts (λ x. n x + count_at level x (drop i es)) n (λ x. let e : count_at level x (drop i es) ≡ 0 = ap (count_at level x) (drop_all i es h) in omega (arith, e))

-- ## A gap

one_below : (level w x y : ℕ) → x ≤ w → one_at (weight_with_gap level w y) x ≡ one_at y x
one_below level w x y h = grind (arith, nat_tests)

one_between : (level w y : ℕ) → w < max_weight level → one_at (weight_with_gap level w y) (w + 1) ≡ 0
one_between level w y h = grind (arith, nat_tests)

one_above : (level w x y : ℕ) → w < x → x < max_weight level → one_at (weight_with_gap level w y) (x + 1) ≡ one_at y x
one_above level w x y h k = grind (arith, nat_tests)

-- what a gap at a level does to the count of a weight, where it does so to each element
all_at : (level w k x y : ℕ) → ((e : Element) → one_at (weight k (with_gap level w e)) y ≡ one_at (weight k e) x) → (es : List Element) → count_at k y (map (with_gap level w) es) ≡ count_at k x es
all_at level w k x y each [] = refl
all_at level w k x y each (e ∷ es) = ap₂ (λ a b. a + b) (each e) (all_at level w k x y each es)

all_in : (level w k x y : ℕ) → ((e : Element) → one_at (weight k (with_gap level w e)) y ≡ one_at (weight k e) x) → (es : List (List ℕ × List Element)) → count_in k y (map (entry_with_gap level w) es) ≡ count_in k x es
all_in level w k x y each [] = refl
all_in level w k x y each (e ∷ es) = ap₂ (λ a b. a + b) (all_at level w k x y each e.1) (all_in level w k x y each es)

none_at : (level w k y : ℕ) → ((e : Element) → one_at (weight k (with_gap level w e)) y ≡ 0) → (es : List Element) → count_at k y (map (with_gap level w) es) ≡ 0
none_at level w k y each [] = refl
none_at level w k y each (e ∷ es) = ap₂ (λ a b. a + b) (each e) (none_at level w k y each es)

none_in : (level w k y : ℕ) → ((e : Element) → one_at (weight k (with_gap level w e)) y ≡ 0) → (es : List (List ℕ × List Element)) → count_in k y (map (entry_with_gap level w) es) ≡ 0
none_in level w k y each [] = refl
none_in level w k y each (e ∷ es) = ap₂ (λ a b. a + b) (none_at level w k y each e.1) (none_in level w k y each es)

Reach-gap : (level w : ℕ) (es : List (List ℕ × List Element)) (old new : List ℕ) → IsLevel level → length old ≤ max_weight level + 1 → Opens w old new → Reach old (λ x. count_in level x es) → Reach new (λ x. count_in level x (map (entry_with_gap level w) es))
Reach-gap level w es old new l within opens reach x h few = elim (cases_lt w x) [
  | inl high ↦ above x high h few
  | inr low ↦
      let same = all_in level w level x x (λ e. ap (λ y. one_at y x) (weight-with_gap level w e l) ∙ one_below level w x (weight level e) low) es in
      let at = opens.below x low in let size = opens.size in
      at ∙ reach x (omega (arith, size, h)) (omega (arith, at, few)) ∙ sym same
] where
  above : (x : ℕ) → w < x → x < length new → slice_index new x < 4294967295 → slice_index new x ≡ count_in level x (map (entry_with_gap level w) es)
  above zero high h few = absurd (omega arith)
  above (suc x) high h few = elim (cases_lt w x) [
    | inl more ↦
        let size = opens.size in
        let is : suc x ≡ x + 1 = omega arith in
        let same : count_in level (suc x) (map (entry_with_gap level w) es) ≡ count_in level x es = ap (λ k. count_in level k (map (entry_with_gap level w) es)) is ∙ all_in level w level x (x + 1) (λ e. ap (λ y. one_at y (x + 1)) (weight-with_gap level w e l) ∙ one_above level w x (weight level e) more (omega (arith, size, h, within))) es in
        let at : slice_index new (suc x) ≡ slice_index old x = ap (slice_index new) is ∙ opens.above x more (omega (arith, size, h)) in
        at ∙ reach x (omega (arith, size, h)) (omega (arith, at, few)) ∙ sym same
    | inr low ↦
        let size = opens.size in
        let is : suc x ≡ w + 1 = omega (arith, low, high) in
        let none = none_in level w level (w + 1) (λ e. ap (λ y. one_at y (w + 1)) (weight-with_gap level w e l) ∙ one_between level w (weight level e) (omega (arith, size, h, within, is))) es in
        ap (slice_index new) is ∙ opens.next (omega (arith, size, h, is)) ∙ sym none ∙ ap (λ k. count_in level k (map (entry_with_gap level w) es)) (sym is)
  ]

pub entries-from_entries : (es : List (List ℕ × List Element)) → T (is_sorted key_cmp es) → entries (from_entries {R = key_cmp} es) ≡ es
entries-from_entries es sorted =
    ap entries (same_map nat_list_cmp_total (slice_cmp-IsAntisymmetric nat_cmp-IsAntisymmetric) (from_entries es) (from_sorted es) (λ q. get-from_entries nat_list_cmp_total es q ∙ sym (get-from_sorted key_cmp es q sorted)))
    ∙ entries-from_sorted key_cmp es sorted

below-gap : (level w : ℕ) (k : List ℕ) (es : List (List ℕ × List Element)) → below_all key_cmp k (map (entry_with_gap level w) es) ≡ below_all key_cmp k es
below-gap level w k [] = refl
below-gap level w k (e ∷ es) = ap (λ b. is_lt (key_cmp k e.0) && b) (below-gap level w k es)

sorted-gap : (level w : ℕ) (es : List (List ℕ × List Element)) → is_sorted key_cmp (map (entry_with_gap level w) es) ≡ is_sorted key_cmp es
sorted-gap level w [] = refl
sorted-gap level w (e ∷ es) = ap₂ (λ a b. a && b) (below-gap level w e.0 es) (sorted-gap level w es)

entries-gap : (level w : ℕ) (t : ElementTable) → entries (table_with_gap level w t).entries ≡ map (entry_with_gap level w) (entries t.entries)
entries-gap level w t = entries-from_entries (map (entry_with_gap level w) (entries t.entries)) (subst T (sym (sorted-gap level w (entries t.entries))) (entries_sorted t.entries))

pub AreCounts-gap : (level w : ℕ) (t : ElementTable) (old new : List ℕ) → IsLevel level → Opens w old new → AreCounts level old t → AreCounts level new (table_with_gap level w t)
AreCounts-gap level w t old new l opens are = record {
  within = let a = are.within in let b = opens.size in omega (arith, a, b);
  reach = subst (λ es. Reach new (λ x. count_in level x es)) (sym (entries-gap level w t)) (Reach-gap level w (entries t.entries) old new l are.within opens are.reach);
}

-- at the other levels
pub AreCounts-other : (level w k : ℕ) (t : ElementTable) (counts : List ℕ) → ((e : Element) → weight k (with_gap level w e) ≡ weight k e) → AreCounts k counts t → AreCounts k counts (table_with_gap level w t)
AreCounts-other level w k t counts stays are = record {
  within = are.within;
  reach = λ x h few. are.reach x h few ∙ sym (ap (count_in k x) (entries-gap level w t) ∙ all_in level w k x x (λ e. ap (λ y. one_at y x) (stays e)) (entries t.entries));
}

-- ## An entry

pub both_T : (a b : Bool) → T (a && b) → T a × T b
both_T true b h = (tt, h)
both_T false b h = absurd h

pub less : (o : Ordering) → T (is_lt o) → o ≡ Less
less Less h = refl
less Equal h = absurd h
less Greater h = absurd h

abbrev pub or_none : Option (List Element) → List Element
or_none o = unwrap_or o []

-- a key below another one is not among the entries above that
absent : (k a : List ℕ) (es : List (List ℕ × List Element)) → key_cmp k a ≡ Less → T (below_all key_cmp a es) → find key_cmp k es ≡ None
absent k a [] is h = refl
absent k a (e ∷ es) is h =
    let b = both_T (is_lt (key_cmp a e.0)) (below_all key_cmp a es) h in
    let lower : key_cmp k e.0 ≡ Less = nat_list_cmp_total.trans k a e.0 is (less (key_cmp a e.0) b.0) in
    ap (λ o. cond (is_eq o) (Some e.1) (find key_cmp k es)) lower ∙ absent k a es is b.1

pub count-put : (level x : ℕ) (k : List ℕ) (v : List Element) (es : List (List ℕ × List Element)) → T (is_sorted key_cmp es) → count_in level x (put key_cmp k v es) + count_at level x (or_none (find key_cmp k es)) ≡ count_in level x es + count_at level x v
count-put level x k v [] sorted = omega arith
count-put level x k v (e ∷ es) sorted =
    let b = both_T (below_all key_cmp e.0 es) (is_sorted key_cmp es) sorted in
    elim (key_cmp k e.0) as (λ o. key_cmp k e.0 ≡ o → count_in level x (by_order o ((k, v) ∷ e ∷ es) ((e.0, v) ∷ es) (e ∷ put key_cmp k v es)) + count_at level x (or_none (cond (is_eq o) (Some e.1) (find key_cmp k es))) ≡ count_in level x (e ∷ es) + count_at level x v) [
      | Less ↦ λ is.
          let none : count_at level x (or_none (find key_cmp k es)) ≡ 0 = ap (λ o. count_at level x (or_none o)) (absent k e.0 es is b.0) in
          omega (arith, none)
      | Equal ↦ λ is. omega arith
      | Greater ↦ λ is. let h = count-put level x k v es b.1 in omega (arith, h)
    ] refl

-- what a level counts when a key gets elements in place of those that it had
pub AreCounts-put : (level : ℕ) (t : ElementTable) (k : List ℕ) (v before : List Element) (old new : List ℕ) → length new ≡ length old → before ≡ elements_or_none t k
    → ((n : ℕ → ℕ) → Reach old (λ x. n x + count_at level x before) → Reach new (λ x. n x + count_at level x v)) → AreCounts level old t → AreCounts level new (with_entry t k v)
AreCounts-put level t k v before old new size is each are = record {
  within = let a = are.within in omega (arith, a, size);
  reach = Reach-same new (λ x. others x + count_at level x v) (λ x. count_in level x (entries (with_entry t k v).entries)) (λ x. sym (with x)) (each others others-reach);
} where
  sorted : T (is_sorted key_cmp (entries t.entries))
  sorted = entries_sorted t.entries

  others : ℕ → ℕ
  others x = count_in level x (put key_cmp k [] (entries t.entries))

  given : (x : ℕ) → others x + count_at level x before ≡ count_in level x (entries t.entries)
  given x =
      let had : count_at level x before ≡ count_at level x (or_none (find key_cmp k (entries t.entries))) = ap (count_at level x) (is ∙ ap or_none (get-entries t.entries k)) in
      let e = count-put level x k [] (entries t.entries) sorted in
      omega (arith, had, e)

  others-reach : Reach old (λ x. others x + count_at level x before)
  others-reach x h few = are.reach x h few ∙ sym (given x)

  with : (x : ℕ) → count_in level x (entries (with_entry t k v).entries) ≡ others x + count_at level x v
  with x =
      let a : count_in level x (entries (with_entry t k v).entries) ≡ count_in level x (put key_cmp k v (entries t.entries)) = ap (count_in level x) (entries-insert nat_list_cmp_total t.entries k v) in
      let e = count-put level x k v (entries t.entries) sorted in
      let f = count-put level x k [] (entries t.entries) sorted in
      omega (arith, a, e, f)

-- ## The greatest weight

limit_one : (level w x n : ℕ) (b : Bool) → w < max_weight level → b ≡ nat_lt 0 n → ((moves level w x && x == max_weight level) || b) ≡ nat_lt 0 (one_at x (max_weight level) + n)
limit_one level w x n b h is = grind (arith, nat_tests)

limit_both : (m n : ℕ) → (nat_lt 0 m || nat_lt 0 n) ≡ nat_lt 0 (m + n)
limit_both m n = grind (arith, nat_tests)

limit_at : (level w : ℕ) (es : List Element) → w < max_weight level → list_any (cannot_move level w) es ≡ nat_lt 0 (count_at level (max_weight level) es)
limit_at level w [] h = refl
limit_at level w (e ∷ es) h = limit_one level w (weight level e) (count_at level (max_weight level) es) _ h (limit_at level w es h)

limit_in : (level w : ℕ) (es : List (List ℕ × List Element)) → w < max_weight level → list_any (list_any (cannot_move level w)) (map (λ e. e.1) es) ≡ nat_lt 0 (count_in level (max_weight level) es)
limit_in level w [] h = refl
limit_in level w (e ∷ es) h = ap₂ (λ a b. a || b) (limit_at level w e.1 h) (limit_in level w es h) ∙ limit_both (count_at level (max_weight level) e.1) (count_in level (max_weight level) es)

-- below the greatest weight no gap can be made exactly where some element has it
pub lacks-below : (level w : ℕ) (t : ElementTable) → w < max_weight level → reaches_limit level t ≡ list_any (list_any (cannot_move level w)) (values t.entries)
lacks-below level w t h = sym (limit_in level w (entries t.entries) h)

-- and above it nothing moves
stays_one : (level w x : ℕ) → max_weight level ≤ w → (moves level w x && x == max_weight level) ≡ false
stays_one level w x h = grind (arith, nat_tests)

both_false : (a b : Bool) → a ≡ false → b ≡ false → (a || b) ≡ false
both_false a b p q = rw (p, q) refl

stays_at : (level w : ℕ) (es : List Element) → max_weight level ≤ w → list_any (cannot_move level w) es ≡ false
stays_at level w [] h = refl
stays_at level w (e ∷ es) h = both_false _ _ (stays_one level w (weight level e) h) (stays_at level w es h)

stays_in : (level w : ℕ) (es : List (List ℕ × List Element)) → max_weight level ≤ w → list_any (list_any (cannot_move level w)) (map (λ e. e.1) es) ≡ false
stays_in level w [] h = refl
stays_in level w (e ∷ es) h = both_false _ _ (stays_at level w e.1 h) (stays_in level w es h)

pub lacks-above : (level w : ℕ) (t : ElementTable) → max_weight level ≤ w → list_any (list_any (cannot_move level w)) (values t.entries) ≡ false
lacks-above level w t h = stays_in level w (entries t.entries) h

-- ## Written back

pub whole-items : {Z : Type 0} (v : Vec ℕ Z) (xs : List ℕ) → length xs ≡ length v.items → (with_items v xs).items ≡ xs
whole-items v xs same = with_items_is v xs (let h = v.ok.0 in omega (arith, same, h))

pub AreCounts-opened : {Z : Type 0} (level w : ℕ) (t : ElementTable) (v : Vec ℕ Z) (old new : List ℕ) → IsLevel level → old ≡ v.items → Opens w old new → AreCounts level v.items t → AreCounts level (with_items v new).items (table_with_gap level w t)
AreCounts-opened level w t v old new l is opens are =
    let size : length new ≡ length v.items = opens.size ∙ ap length is in
    subst (λ xs. AreCounts level xs (table_with_gap level w t)) (sym (whole-items v new size)) (AreCounts-gap level w t old new l opens (subst (λ xs. AreCounts level xs t) (sym is) are))

pub AreCounts-exchanged : {Z : Type 0} (level : ℕ) (t : ElementTable) (k : List ℕ) (es before : List Element) (v : Vec ℕ Z) (old new : List ℕ) → old ≡ v.items → length new ≡ length old → before ≡ elements_or_none t k
    → ((n : ℕ → ℕ) → Reach old (λ x. n x + count_at level x before) → Reach new (λ x. n x + count_at level x es)) → AreCounts level v.items t → AreCounts level (with_items v new).items (with_entry t k es)
AreCounts-exchanged level t k es before v old new is size had each are =
    subst (λ xs. AreCounts level xs (with_entry t k es)) (sym (whole-items v new (size ∙ ap length is))) (AreCounts-put level t k es before old new size had each (subst (λ xs. AreCounts level xs t) (sym is) are))

-- ## All levels

counts-none : (level : ℕ) (counts : List ℕ) (t : ElementTable) → length counts ≡ 0 → AreCounts level counts t
counts-none level counts t none = record { within = omega (arith, none); reach = λ x h few. absurd (omega (arith, none, h)) }

pub HaveCounts-none : (c : Counts) (t : ElementTable) → AreNone c → HaveCounts c t
HaveCounts-none c t none = record { first = counts-none 1 c.first.items t none.first; second = counts-none 2 c.second.items t none.second; third = counts-none 3 c.third.items t none.third }
