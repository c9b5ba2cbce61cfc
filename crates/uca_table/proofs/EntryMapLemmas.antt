-- The entries of a builder: keys of one code point in blocks, longer ones in a map.
use Rattle.uca_table.proofs.Common.{◌≡◌, ℕ, zero, suc, ◌+◌, ◌-◌, ◌<◌, ◌≤◌, ◌==◌, ◌&&◌, if◌then◌else◌, nat_le, nat_lt, true, false, cond, T, List, [], ◌∷◌, ◌++◌, length, Option, Some, None, refl, sym, ap, ◌∙◌, arith, inl, inr, append-nil, and-true, cases_eq, cases_lt, Less, Equal, Greater, AllByRecursion, nat_cmp, eq_by_cmp, is_eq, ordering_then, nat_cmp_is, unsigned_ties, slice_cmp, nat_list_cmp_total, lists_ties, find, put, is_sorted, nat_cmp-IsAntisymmetric, slice_cmp-IsAntisymmetric, below_all, find-put, same_entries, key_cmp, IsLong, first_of, merged, points_from, Place, is_used, common_steps, ◌*◌, ◌/◌, ◌%◌, get_or, map, is_some, subst, append_assoc, length-drop, length-append, take_all, take-append-le, drop_all, drop-append-le, get_or_past, map-append, le-leb, Ordering, insert_entry, is_at, lookup, is_sorted-put, Element, keyed, entry_in, point_at, places_in, entries_in, AreEntries, IsPlaced, IsSingleMap, NoPlace, place_at, points_of, taken, AreAhead, MayFollow, IsEntry, AreAscending, last_key}
use Rattle.uca_table.proofs.EntryLemmas.{left, less, right, AreAscending-at, AreAscending-front, all-put}
use Rattle.std.specs.declared.vec.Vec.{Vec}
use Rattle.uca_table.specs.declared.single_map.SingleMap.{SingleMap}

-- no key of one code point is at or above a number
abbrev pub Covers : (ℕ → Place) → ℕ → Type 0
Covers at n = (p : ℕ) → n ≤ p → is_used (at p) ≡ false

-- ---- the order of keys

-- a key comes before each that begins with a higher code point
comes_before : (k : List ℕ) (x : ℕ) (xs : List ℕ) → first_of k < x → key_cmp k (x ∷ xs) ≡ Less
comes_before [] x xs h = refl
comes_before (y ∷ ys) x xs h = ap (λ o. ordering_then o (slice_cmp nat_cmp ys xs)) (sym (nat_cmp_is y x Less h))

-- a key of two or more comes after the code points up to its first
point_before : (p : ℕ) (k : List ℕ) → p ≤ first_of k → 1 < length k → key_cmp (p ∷ []) k ≡ Less
point_before p [] h long = absurd (omega (arith, long))
point_before p (x ∷ []) h long = absurd (omega (arith, long))
point_before p (x ∷ y ∷ ys) h long = grind (arith, common_steps, cases_eq, comes_before)

first_below : (k q : List ℕ) → key_cmp k q ≡ Less → first_of k ≤ first_of q
first_below [] q h = omega arith
first_below (x ∷ xs) [] h = cc
first_below (x ∷ xs) (y ∷ ys) h = grind (arith, common_steps, cases_lt)

below_less : (k q : List ℕ) (es : List (List ℕ × Place)) → key_cmp k q ≡ Less → T (below_all key_cmp q es) → T (below_all key_cmp k es)
below_less k q [] h below = tt
below_less k q (e ∷ es) h below = grind (arith, common_steps, nat_list_cmp_total.trans k q e.0 h, less (key_cmp q e.0), below_less k q es h)

-- ---- in order

below-points : (at : ℕ → Place) (k : List ℕ) (p n : ℕ) (es : List (List ℕ × Place)) → first_of k < p → T (below_all key_cmp k es) → T (below_all key_cmp k (points_from at p n ++ es))
below-points at k p zero es h below = below
below-points at k p (suc n) es h below = grind (arith, common_steps, comes_before k p [], below-points at k (p + 1) n es (omega arith) below)

below-merged : (at : ℕ → Place) (k : List ℕ) (p end : ℕ) (es : List (List ℕ × Place)) → first_of k < p → T (below_all key_cmp k es) → T (below_all key_cmp k (merged at p end es))
below-merged at k p end [] h below = simp append-nil at (below-points at k p (end - p) [] h below)
below-merged at k p end (e ∷ es) h below =
    let here : key_cmp k e.0 ≡ Less = less _ (left _ _ below) in
    let low : first_of k ≤ first_of e.0 = first_below k e.0 here in
    let after : T (below_all key_cmp k (merged at (first_of e.0 + 1) end es)) = below-merged at k (first_of e.0 + 1) end es (omega arith) (right _ _ below) in
    below-points at k p ((first_of e.0 + 1) - p) (e ∷ merged at (first_of e.0 + 1) end es) h (grind (arith, common_steps))

sorted-points : (at : ℕ → Place) (p n : ℕ) (es : List (List ℕ × Place)) → T (is_sorted key_cmp es) → ((j : ℕ) → p ≤ j → j < p + n → T (below_all key_cmp (j ∷ []) es)) → T (is_sorted key_cmp (points_from at p n ++ es))
sorted-points at p zero es sorted below = sorted
sorted-points at p (suc n) es sorted below =
    let later : T (is_sorted key_cmp (points_from at (p + 1) n ++ es)) = sorted-points at (p + 1) n es sorted (λ j from to. below j (omega arith) (omega arith)) in
    let after : T (below_all key_cmp (p ∷ []) (points_from at (p + 1) n ++ es)) = below-points at (p ∷ []) (p + 1) n es (omega arith) (below p (omega arith) (omega arith)) in
    grind (arith, common_steps)

pub sorted-merged : (at : ℕ → Place) (p end : ℕ) (es : List (List ℕ × Place)) → AllByRecursion IsLong es → T (is_sorted key_cmp es) → T (is_sorted key_cmp (merged at p end es))
sorted-merged at p end [] long sorted = simp append-nil at (sorted-points at p (end - p) [] tt (λ j from to. tt))
sorted-merged at p end (e ∷ es) long sorted =
    let next : ℕ = first_of e.0 + 1 in
    let after : T (below_all key_cmp e.0 (merged at next end es)) = below-merged at e.0 next end es (omega arith) (left _ _ sorted) in
    let later : T (is_sorted key_cmp (merged at next end es)) = sorted-merged at next end es long.1 (right _ _ sorted) in
    sorted-points at p (next - p) (e ∷ merged at next end es) (grind (arith, common_steps)) (λ j from to.
    let here : key_cmp (j ∷ []) e.0 ≡ Less = point_before j e.0 (omega arith) long.0 in
    let above : T (below_all key_cmp (j ∷ []) (merged at next end es)) = below-merged at (j ∷ []) next end es (omega arith) (below_less (j ∷ []) e.0 es here (left _ _ sorted)) in
    grind (arith, common_steps))

-- ---- what is found

tied_single : (p n : ℕ) → eq_by_cmp key_cmp (p ∷ []) (n ∷ []) ≡ (p == n)
tied_single p n = sym (lists_ties nat_cmp unsigned_ties (p ∷ []) (n ∷ [])) ∙ and-true (p == n)

tied_longer : (x y : ℕ) (q : List ℕ) (n : ℕ) → eq_by_cmp key_cmp (x ∷ y ∷ q) (n ∷ []) ≡ false
tied_longer x y q n = elim (nat_cmp x n) as (λ o. is_eq (ordering_then o Greater) ≡ false) [ Less ↦ refl | Equal ↦ refl | Greater ↦ refl ]

longer_tied : (n : ℕ) (k : List ℕ) → 1 < length k → eq_by_cmp key_cmp (n ∷ []) k ≡ false
longer_tied n [] long = absurd (omega (arith, long))
longer_tied n (x ∷ []) long = absurd (omega (arith, long))
longer_tied n (x ∷ y ∷ k) long = elim (nat_cmp n x) as (λ o. is_eq (ordering_then o Less) ≡ false) [ Less ↦ refl | Equal ↦ refl | Greater ↦ refl ]

point-found : (at : ℕ → Place) (j p n : ℕ) (es : List (List ℕ × Place)) → find key_cmp (j ∷ []) (points_from at p n ++ es) ≡ cond ((nat_le p j && nat_lt j (p + n)) && is_used (at j)) (Some (at j)) (find key_cmp (j ∷ []) es)
point-found at j p zero es = grind (arith, common_steps)
point-found at j p (suc n) es = grind (arith, common_steps, tied_single, cases_eq j p, point-found at j (p + 1) n es)

unused-missed : (at : ℕ → Place) (j p end : ℕ) (es : List (List ℕ × Place)) → is_used (at j) ≡ false → AllByRecursion IsLong es → find key_cmp (j ∷ []) (merged at p end es) ≡ None
unused-missed at j p end [] unused long = let h : find key_cmp (j ∷ []) (points_from at p (end - p) ++ []) ≡ None = grind (arith, common_steps, point-found at j p (end - p) []) in simp append-nil at h
unused-missed at j p end (e ∷ es) unused long = grind (arith, common_steps, point-found, longer_tied j e.0, unused-missed at j (first_of e.0 + 1) end es unused long.1)

used-found : (at : ℕ → Place) (j p end : ℕ) (es : List (List ℕ × Place)) → p ≤ j → j < end → is_used (at j) ≡ true → AllByRecursion IsLong es → find key_cmp (j ∷ []) (merged at p end es) ≡ Some (at j)
used-found at j p end [] from to used long = let h : find key_cmp (j ∷ []) (points_from at p (end - p) ++ []) ≡ Some (at j) = grind (arith, common_steps, point-found at j p (end - p) []) in simp append-nil at h
used-found at j p end (e ∷ es) from to used long = elim (cases_lt j (first_of e.0 + 1)) [
  | inl before ↦ grind (arith, common_steps, point-found)
  | inr after ↦ grind (arith, common_steps, point-found, longer_tied j e.0, used-found at j (first_of e.0 + 1) end es after to used long.1)
]

-- a key that is not one code point is found among the longer ones
others-found : (at : ℕ → Place) (q : List ℕ) (p n : ℕ) (es : List (List ℕ × Place)) → ((x : ℕ) → eq_by_cmp key_cmp q (x ∷ []) ≡ false) → find key_cmp q (points_from at p n ++ es) ≡ find key_cmp q es
others-found at q p zero es apart = refl
others-found at q p (suc n) es apart = grind (arith, common_steps, apart p, others-found at q (p + 1) n es apart)

longer-found : (at : ℕ → Place) (q : List ℕ) (p end : ℕ) (es : List (List ℕ × Place)) → ((x : ℕ) → eq_by_cmp key_cmp q (x ∷ []) ≡ false) → find key_cmp q (merged at p end es) ≡ find key_cmp q es
longer-found at q p end [] apart = simp append-nil at (others-found at q p (end - p) [] apart)
longer-found at q p end (e ∷ es) apart = grind (arith, common_steps, others-found at q p ((first_of e.0 + 1) - p) (e ∷ merged at (first_of e.0 + 1) end es) apart, longer-found at q (first_of e.0 + 1) end es apart)

-- the place of a key
abbrev pub place_of : (ℕ → Place) → List (List ℕ × Place) → List ℕ → Option Place
place_of at es [] = find key_cmp [] es
place_of at es (p ∷ []) = cond (is_used (at p)) (Some (at p)) None
place_of at es (x ∷ y ∷ q) = find key_cmp (x ∷ y ∷ q) es

pub merged-found : (at : ℕ → Place) (end : ℕ) (es : List (List ℕ × Place)) (q : List ℕ) → Covers at end → AllByRecursion IsLong es → find key_cmp q (merged at 0 end es) ≡ place_of at es q
merged-found at end es [] covers long = longer-found at [] 0 end es (λ x. refl)
merged-found at end es (p ∷ []) covers long = grind (arith, common_steps, cases_lt p end, covers p, used-found at p 0 end es, unused-missed at p 0 end es)
merged-found at end es (x ∷ y ∷ q) covers long = longer-found at (x ∷ y ∷ q) 0 end es (tied_longer x y q)

-- keys in order with these places are the same list
pub merged-is : (at : ℕ → Place) (end : ℕ) (es xs : List (List ℕ × Place)) → Covers at end → AllByRecursion IsLong es → T (is_sorted key_cmp es) → T (is_sorted key_cmp xs) → ((q : List ℕ) → find key_cmp q xs ≡ place_of at es q) → merged at 0 end es ≡ xs
merged-is at end es xs covers long sorted sorted_too same =
    same_entries key_cmp nat_list_cmp_total (slice_cmp-IsAntisymmetric nat_cmp-IsAntisymmetric) _ xs (sorted-merged at 0 end es long sorted) sorted_too (λ q. merged-found at end es q covers long ∙ sym (same q))

-- ---- one more key

pub point-given : (at bt : ℕ → Place) (es : List (List ℕ × Place)) (c : ℕ) (p : Place) (q : List ℕ) → is_used p ≡ true → ((j : ℕ) → bt j ≡ (if c == j then p else at j)) → place_of bt es q ≡ cond (eq_by_cmp key_cmp q (c ∷ [])) (Some p) (place_of at es q)
point-given at bt es c p [] used given = refl
point-given at bt es c p (j ∷ []) used given = grind (arith, common_steps, tied_single, cases_eq c j, given j)
point-given at bt es c p (x ∷ y ∷ q) used given = grind (arith, common_steps, tied_longer)

pub longer-given : (at : ℕ → Place) (es : List (List ℕ × Place)) (k : List ℕ) (p : Place) (q : List ℕ) → 1 < length k → place_of at (put key_cmp k p es) q ≡ cond (eq_by_cmp key_cmp q k) (Some p) (place_of at es q)
longer-given at es k p [] long = find-put key_cmp nat_list_cmp_total [] k p es
longer-given at es k p (j ∷ []) long = grind (arith, common_steps, longer_tied j k long)
longer-given at es k p (x ∷ y ∷ q) long = find-put key_cmp nat_list_cmp_total (x ∷ y ∷ q) k p es

-- ---- the places of single code points

-- a code point whose block has no places of its own is no key
pub no_block : (m : SingleMap) (p : ℕ) → IsSingleMap m → get_or m.blocks.numbers.items (p / 128) 0 ≡ 0 → place_at m p ≡ NoPlace
no_block m p is none_here = (let first : get_or m.blocks.numbers.items (p / 128) 0 * 128 + p % 128 ≡ p % 128 = omega (arith, none_here) in ap (λ i. get_or m.blocks.items.items i NoPlace) first) ∙ is.shared (p % 128) (omega arith)

-- nor is one beyond all blocks
covered : (m : SingleMap) → IsSingleMap m → Covers (place_at m) (points_of m)
covered m is p beyond = ap is_used (no_block m p is (get_or_past m.blocks.numbers.items (p / 128) 0 (omega (arith, beyond))))

-- ---- what is found

found-place : {Y : Type 0} (m : SingleMap) (ms : List (Vec ℕ Y × Place)) (es : List Element) (q : List ℕ) → AreEntries m ms es → find key_cmp q (places_in m ms) ≡ place_of (place_at m) (map keyed ms) q
found-place m ms es q are = merged-found (place_at m) (points_of m) (map keyed ms) q (covered m are.singles) are.long

has-place : (es : List Element) (q : List ℕ) (xs : List (List ℕ × Place)) → is_some (find key_cmp q (map (entry_in es) xs)) ≡ is_some (find key_cmp q xs)
has-place es q [] = refl
has-place es q (x ∷ xs) = grind (arith, common_steps, has-place es q xs)

-- a key of one code point
pub key_one : (key : List ℕ) (first : ℕ) → length key ≡ 1 → first ≡ get_or key 0 first → first ∷ [] ≡ key
key_one [] first one is = absurd (omega (arith, one))
key_one (x ∷ []) first one is = ap (λ y. y ∷ []) is
key_one (x ∷ y ∷ xs) first one is = absurd (omega (arith, one))

-- whether a key of one code point is there
pub has-one : {Y : Type 0} (m : SingleMap) (ms : List (Vec ℕ Y × Place)) (es : List Element) (q : List ℕ) (p : ℕ) → AreEntries m ms es → length q ≡ 1 → p ≡ get_or q 0 p → is_some (find key_cmp q (entries_in m ms es)) ≡ is_used (place_at m p)
has-one m ms es q p are one is =
    let used : is_some (place_of (place_at m) (map keyed ms) (p ∷ [])) ≡ is_used (place_at m p) = grind (arith, common_steps) in
    subst (λ k. is_some (find key_cmp k (entries_in m ms es)) ≡ is_used (place_at m p)) (key_one q p one is) (has-place es (p ∷ []) (places_in m ms) ∙ ap is_some (found-place m ms es (p ∷ []) are) ∙ used)

has-key : {Y : Type 0} (ms : List (Vec ℕ Y × Place)) (q : List ℕ) → is_some (find key_cmp q (map keyed ms)) ≡ is_some (lookup (is_at (λ (k : Vec ℕ Y). slice_cmp nat_cmp q k.items)) ms)
has-key [] q = refl
has-key (m ∷ ms) q = grind (arith, common_steps, has-key ms q)

-- a longer key is there if the map of such keys has it
pub has-longer : {Y : Type 0} (m : SingleMap) (ms : List (Vec ℕ Y × Place)) (es : List Element) (q : List ℕ) → AreEntries m ms es → 1 < length q → is_some (find key_cmp q (entries_in m ms es)) ≡ is_some (lookup (is_at (λ (k : Vec ℕ Y). slice_cmp nat_cmp q k.items)) ms)
has-longer m ms es [] are long = absurd (omega (arith, long))
has-longer m ms es (x ∷ []) are long = absurd (omega (arith, long))
has-longer m ms es (x ∷ y ∷ q) are long = has-place es (x ∷ y ∷ q) (places_in m ms) ∙ ap is_some (found-place m ms es (x ∷ y ∷ q) are) ∙ has-key ms (x ∷ y ∷ q)

pub ruleset having = (common_steps, has-one, has-longer)

-- ---- one more entry

-- elements that are appended change none before them
taken-kept : (es v : List Element) (p : Place) → p.start ≤ p.past → p.past ≤ length es → taken p (es ++ v) ≡ taken p es
taken-kept es v p used within = grind (arith, common_steps, drop-append-le, take-append-le, length-drop)

kept : (es v : List Element) (xs : List (List ℕ × Place)) → AllByRecursion (IsPlaced (length es)) xs → map (entry_in (es ++ v)) xs ≡ map (entry_in es) xs
kept es v [] placed = refl
kept es v (x ∷ xs) placed = grind (arith, common_steps, taken-kept es v x.1 placed.0.0 placed.0.1, kept es v xs placed.1)

placed-kept : (n m : ℕ) (xs : List (List ℕ × Place)) → n ≤ m → AllByRecursion (IsPlaced n) xs → AllByRecursion (IsPlaced m) xs
placed-kept n m [] more placed = tt
placed-kept n m (x ∷ xs) more placed = ((placed.0.0, let h : x.1.past ≤ n = placed.0.1 in omega arith), placed-kept n m xs more placed.1)

-- the elements after the first ones are those that were appended
appended : (es v : List Element) (p : Place) → p.start ≡ length es → p.past ≡ length es + length v → taken p (es ++ v) ≡ v
appended es v p start past = grind (arith, common_steps, drop-append-le, drop_all, take_all)

entries-put : (es : List Element) (k : List ℕ) (p : Place) (xs : List (List ℕ × Place)) → map (entry_in es) (put key_cmp k p xs) ≡ put key_cmp k (taken p es) (map (entry_in es) xs)
entries-put es k p [] = refl
entries-put es k p (x ∷ xs) = grind (arith, common_steps, entries-put es k p xs)

-- what one more place for a key does
module _ {Y : Type 0} (old new : SingleMap) (ms ns : List (Vec ℕ Y × Place)) (es v fs : List Element) (k : List ℕ) (p : Place) (are : AreEntries old ms es) (is : IsSingleMap new) (long : AllByRecursion IsLong (map keyed ns)) (sorted : T (is_sorted key_cmp (map keyed ns)))
    (all : fs ≡ es ++ v) (start : p.start ≡ length es) (past : p.past ≡ length es + length v) (found : (q : List ℕ) → place_of (place_at new) (map keyed ns) q ≡ cond (eq_by_cmp key_cmp q k) (Some p) (place_of (place_at old) (map keyed ms) q)) where
  places-put : places_in new ns ≡ put key_cmp k p (places_in old ms)
  places-put = merged-is (place_at new) (points_of new) (map keyed ns) _ (covered new is) long sorted
      (is_sorted-put key_cmp nat_list_cmp_total k p _ (sorted-merged (place_at old) 0 (points_of old) (map keyed ms) are.long are.sorted))
      (λ q. find-put key_cmp nat_list_cmp_total q k p _ ∙ ap (cond (eq_by_cmp key_cmp q k) (Some p)) (found-place old ms es q are) ∙ sym (found q))

  inserted-are : AreEntries new ns fs
  inserted-are =
      let more : length fs ≡ length es + length v = ap length all ∙ length-append es v in
      record {
        singles = is;
        long = long;
        sorted = sorted;
        placed = subst (AllByRecursion (IsPlaced (length fs))) (sym places-put) (all-put (IsPlaced (length fs)) (places_in old ms) k p (omega arith, omega arith) (placed-kept (length es) (length fs) (places_in old ms) (omega arith) are.placed));
      }

  inserted : AreEntries new ns fs × (entries_in new ns fs ≡ put key_cmp k v (entries_in old ms es))
  inserted = (inserted-are, ap (λ l. map (entry_in l) (places_in new ns)) all ∙ ap (map (entry_in (es ++ v))) places-put ∙ entries-put (es ++ v) k p (places_in old ms) ∙ grind (arith, common_steps, appended, kept))

-- a code point that gets its place
pub point-inserted : {Y : Type 0} {old : SingleMap} {ms : List (Vec ℕ Y × Place)} {es all fs : List Element} (new : SingleMap) (v : List Element) (c n : ℕ) → AreEntries old ms es → IsSingleMap new → all ≡ es → fs ≡ all ++ v → n ≡ length es
    → ((q : ℕ) → place_at new q ≡ (if c == q then record { start = n; past = n + length v } else place_at old q)) → AreEntries new ms fs × (entries_in new ms fs ≡ put key_cmp (c ∷ []) v (entries_in old ms es))
point-inserted {old = old} {ms = ms} {es = es} {fs = fs} new v c n are is same more start given =
    let p : Place = record { start = n; past = n + length v } in
    inserted old new ms ms es v fs (c ∷ []) p are is are.long are.sorted (more ∙ ap (λ l. l ++ v) same) start (ap (λ m. m + length v) start) (λ q. point-given (place_at old) (place_at new) (map keyed ms) c p q (le-leb p.start p.past (omega arith)) given)

-- the order of the map's keys
abbrev pub vec_cmp : {Y : Type 0} → Vec ℕ Y → Vec ℕ Y → Ordering
vec_cmp x y = slice_cmp nat_cmp x.items y.items

-- what the map's insertion does is `put`
map-put : {Y : Type 0} (ms : List (Vec ℕ Y × Place)) (k : Vec ℕ Y) (p : Place) → map keyed (insert_entry vec_cmp ms k p) ≡ put key_cmp k.items p (map keyed ms)
map-put [] k p = refl
map-put (m ∷ ms) k p = grind (arith, common_steps, map-put ms k p)

-- a longer key likewise
pub longer-inserted : {Y : Type 0} {m : SingleMap} {ms ns : List (Vec ℕ Y × Place)} {es all fs : List Element} (v : List Element) (k : Vec ℕ Y) (n : ℕ) → AreEntries m ms es → all ≡ es → fs ≡ all ++ v → n ≡ length es → 1 < length k.items
    → ns ≡ insert_entry vec_cmp ms k (record { start = n; past = n + length v }) → AreEntries m ns fs × (entries_in m ns fs ≡ put key_cmp k.items v (entries_in m ms es))
longer-inserted {m = m} {ms = ms} {ns = ns} {es = es} {fs = fs} v k n are unmoved more start long given =
    let p : Place = record { start = n; past = n + length v } in
    let same : put key_cmp k.items p (map keyed ms) ≡ map keyed ns = sym (map-put ms k p) ∙ ap (map keyed) (sym given) in
    inserted m m ms ns es v fs k.items p are are.singles (subst (AllByRecursion IsLong) same (all-put IsLong (map keyed ms) k.items p long are.long)) (subst (λ l. T (is_sorted key_cmp l)) same (is_sorted-put key_cmp nat_list_cmp_total k.items p (map keyed ms) are.sorted))
    (more ∙ ap (λ l. l ++ v) unmoved) start (ap (λ i. i + length v) start) (λ q. ap (λ l. place_of (place_at m) l q) (sym same) ∙ longer-given (place_at m) (map keyed ms) k.items p q long)

-- other blocks with the same places change nothing
pub unchanged : {Y : Type 0} {old : SingleMap} {ms : List (Vec ℕ Y × Place)} {es fs : List Element} (new : SingleMap) → AreEntries old ms es → IsSingleMap new → ((q : ℕ) → place_at new q ≡ place_at old q) → fs ≡ es → AreEntries new ms fs × (entries_in new ms fs ≡ entries_in old ms es)
unchanged {old = old} {ms = ms} {es = es} new are is same unmoved =
    let alike : place_at new ≡ place_at old = λ i q. same q i in
    let places : places_in new ms ≡ places_in old ms = merged-is (place_at new) (points_of new) (map keyed ms) _ (covered new is) are.long are.sorted (sorted-merged (place_at old) 0 (points_of old) (map keyed ms) are.long are.sorted)
    (λ q. found-place old ms es q are ∙ ap (λ at. place_of at (map keyed ms) q) (sym alike)) in
    subst (λ l. AreEntries new ms l × (entries_in new ms l ≡ entries_in old ms es)) (sym unmoved)
    (record { singles = is; long = are.long; sorted = are.sorted; placed = subst (AllByRecursion (IsPlaced (length es))) (sym places) are.placed }, ap (map (entry_in es)) places)

-- ---- the nodes

-- what holds of each of two lists, one after the other, holds of each of either
each-part : {A : Type 0} (P : A → Type 0) (xs ys : List A) → AllByRecursion P (xs ++ ys) → AllByRecursion P xs × AllByRecursion P ys
each-part P [] ys all = (tt, all)
each-part P (x ∷ xs) ys all = let rest = each-part P xs ys all.1 in ((all.0, rest.0), rest.1)

parted : (es : List Element) (before : List (List ℕ × List Element)) (xs ys : List (List ℕ × Place)) → before ++ map (entry_in es) (xs ++ ys) ≡ (before ++ map (entry_in es) xs) ++ map (entry_in es) ys
parted es before xs ys = simp (map-append, append_assoc)

-- the first of the keys that are left may come next
pub ahead-first : {es : List Element} {before all : List (List ℕ × List Element)} (xs ys : List (List ℕ × Place)) → AreAhead es before (xs ++ ys) all → MayFollow es before xs
ahead-first {es} {before} xs ys ahead = record { placed = (each-part _ xs ys ahead.placed).0; whole = refl; ascending = AreAscending-front _ (map (entry_in es) ys) (subst AreAscending (sym ahead.whole ∙ parted es before xs ys) ahead.ascending) }

-- and then the others are left
pub ahead-others : {es : List Element} {before now all : List (List ℕ × List Element)} (xs ys : List (List ℕ × Place)) → AreAhead es before (xs ++ ys) all → now ≡ before ++ map (entry_in es) xs → AreAhead es now ys all
ahead-others {es} {before} xs ys ahead is = record { placed = (each-part _ xs ys ahead.placed).1; whole = ap (λ l. l ++ map (entry_in es) ys) is ∙ sym (parted es before xs ys) ∙ ahead.whole; ascending = ahead.ascending }

-- the next entry, which comes after those before
pub ahead-entry : {es : List Element} {before all : List (List ℕ × List Element)} {k : List ℕ × Place} {ks : List (List ℕ × Place)} → AreAhead es before (k ∷ ks) all → IsEntry (entry_in es k) × (key_cmp (last_key before) k.0 ≡ Less)
ahead-entry {es} {before} {k = k} {ks = ks} ahead = AreAscending-at before (entry_in es k) (map (entry_in es) ks) (subst AreAscending (sym ahead.whole) ahead.ascending)

-- of the code points that are left, one comes first
pub ahead-point : {es : List Element} {before all : List (List ℕ × List Element)} (at : ℕ → Place) (p end : ℕ) → p < end → AreAhead es before (points_from at p (end - p)) all → AreAhead es before (point_at at p ++ points_from at (p + 1) (end - (p + 1))) all
ahead-point {es} {before} {all} at p end within ahead = let more : end - p ≡ suc (end - (p + 1)) = omega arith in subst (λ n. AreAhead es before (points_from at p n) all) more ahead

-- code points that are no keys add nothing
pub points-skip : (at : ℕ → Place) (p d q n m : ℕ) → p + d ≡ q → m + d ≡ n → ((j : ℕ) → p ≤ j → j < q → is_used (at j) ≡ false) → points_from at p n ≡ points_from at q m
points-skip at p zero q n m there left unused = grind (arith, common_steps)
points-skip at p (suc d) q zero m there left unused = absurd (omega arith)
points-skip at p (suc d) q (suc n) m there left unused = grind (arith, common_steps, unused p, points-skip at (p + 1) d q n m (omega arith) (omega arith) (λ j from to. unused j (omega arith) to))

-- a longer key comes next, after the code points up to x, which is its first one
pub record IsNext (at : ℕ → Place) (es : List Element) (end next x : ℕ) (before : List (List ℕ × List Element)) (k : List ℕ × Place) (ks : List (List ℕ × Place)) (all : List (List ℕ × List Element)) : Type 0 where
  pub points : MayFollow es before (points_from at next ((x + 1) - next))
  pub longer : (now : List (List ℕ × List Element)) → now ≡ before ++ map (entry_in es) (points_from at next ((x + 1) - next)) → AreAhead es now (k ∷ merged at (x + 1) end ks) all

pub is-next : {es : List Element} {before all : List (List ℕ × List Element)} (at : ℕ → Place) (end next x : ℕ) (k : List ℕ × Place) (ks ls : List (List ℕ × Place)) → AreAhead es before (merged at next end ls) all → ls ≡ k ∷ ks → x ≡ first_of k.0 → IsNext at es end next x before k ks all
is-next {es} {before} {all} at end next x k ks ls ahead split first =
    let points : List (List ℕ × Place) = points_from at next ((first_of k.0 + 1) - next) in
    let rest : List (List ℕ × Place) = k ∷ merged at (first_of k.0 + 1) end ks in
    let parts : AreAhead es before (points ++ rest) all = subst (λ l. AreAhead es before (merged at next end l) all) split ahead in
    subst (λ y. IsNext at es end next y before k ks all) (sym first) (record { points = ahead-first points rest parts; longer = λ now is. ahead-others points rest parts is })
