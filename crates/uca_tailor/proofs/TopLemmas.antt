-- Upper bounds of the weights of a table.
use Rattle.std.proofs.Common.{◌≡◌, ℕ, ◌+◌, ◌≤◌, ◌<◌, min, Bool, true, false, cond, ◌||◌, ◌&&◌, ◌==◌, T, List, [], ◌∷◌, ◌++◌, length, take, map, get_or, Some, None, refl, sym, ap, subst, ◌∙◌, arith, inl, inr}
use Rattle.std.proofs.lemmas.Bool.{cases_Bool}
use Rattle.std.proofs.lemmas.Bool.Decides.{nat_tests}
use Rattle.std.proofs.lemmas.List.{take_more}
use Rattle.std.proofs.lemmas.List.Folds.{list_any-append}
use Rattle.std.specs.List.{AllByRecursion, list_any}
use Rattle.std.specs.declared.cmp.Ordering.{Ordering}
use Rattle.std.specs.declared.cmp.Ordering.TheVariants.{Less, Equal, Greater}
use Rattle.std.proofs.lemmas.Cmp.{eq_by_cmp_equiv}
use Rattle.std.specs.Cmp.Lexicographic.{nat_list_cmp_total}
use Rattle.std.specs.Ordering.{eq_by_cmp, is_eq, is_lt}
use Rattle.std.specs.FinMap.{find, entries, values, is_sorted, entries_sorted, get-entries}
use Rattle.std.specs.FinMap.Entries.{below_all, find_tied}
use Rattle.uca_weights.specs.declared.element.Element.{Element}
use Rattle.uca_weights.specs.Element.{weight}
use Rattle.uca_model.specs.Gap.{moves, weight_with_gap, cannot_move, max_weight}
use Rattle.uca_model.specs.Table.{ElementTable, key_cmp}
use Rattle.uca_tailor.specs.declared.tops.Tops.{Tops}
use Rattle.uca_tailor.specs.Renumbered.{IsBelow, HasTop, HaveTops}
use Rattle.uca_tailor.specs.Tops.{HoldsElements, IsAtMost}
use Rattle.uca_tailor.proofs.Levels.{IsLevel, level_one, level_two, level_three}

-- a greater weight is above whatever a lower one is
above_more : (level top more x : ℕ) → top ≤ more → moves level top x ≡ false → moves level more x ≡ false
above_more level top more x h e = grind (arith, nat_tests)

both_false : (a b : Bool) → a ≡ false → b ≡ false → (a || b) ≡ false
both_false a b p q = rw (p, q) refl

parts_false : (a b : Bool) → (a || b) ≡ false → (a ≡ false) × (b ≡ false)
parts_false true b e = absurd (cc)
parts_false false b e = (refl, e)

pub IsBelow-more : (level top more : ℕ) (es : List Element) → top ≤ more → IsBelow level top es → IsBelow level more es
IsBelow-more level top more [] h e = refl
IsBelow-more level top more (x ∷ es) h e =
    let b = parts_false (moves level top (weight level x)) _ e in
    both_false _ _ (above_more level top more (weight level x) h b.0) (IsBelow-more level top more es h b.1)

-- one element more
next_below : (level top next x w : ℕ) (es : List Element) (e : Element) (b : Bool) → IsBelow level top es → w ≡ weight level e → b ≡ moves level top w → (b ≡ true → next ≡ w) → (b ≡ false → next ≡ top) → IsBelow level next (es ++ e ∷ [])
next_below level top next x w es e true below is t f g =
    let same : next ≡ w = f refl in
    let more : top ≤ next = grows level top w next (sym t) same in
    list_any-append (λ y. moves level next (weight level y)) es (e ∷ []) ∙ both_false _ _ (IsBelow-more level top next es more below) (both_false _ _ (itself level next (weight level e) (same ∙ is)) refl) where
      grows : (level top w next : ℕ) → moves level top w ≡ true → next ≡ w → top ≤ next
      grows level top w next t same = grind (arith, nat_tests)

      itself : (level top w : ℕ) → top ≡ w → moves level top w ≡ false
      itself level top w same = grind (arith, nat_tests)
next_below level top next x w es e false below is t f g =
    let same : next ≡ top = g refl in
    rw same (list_any-append (λ y. moves level top (weight level y)) es (e ∷ []) ∙ both_false _ _ below (both_false _ _ (ap (moves level top) (sym is) ∙ sym t) refl))

pub IsBelow-next : (level top next w i : ℕ) (es : List Element) (d : Element) (b : Bool) → i < length es → IsBelow level top (take i es) → w ≡ weight level (get_or es i d) → b ≡ moves level top w → (b ≡ true → next ≡ w) → (b ≡ false → next ≡ top) → IsBelow level next (take (i + 1) es)
IsBelow-next level top next w i es d b h below is t f g = subst (IsBelow level next) (sym (take_more es i d h)) (next_below level top next 0 w (take i es) (get_or es i d) b below is t f g)

-- what holds of each entry holds of what is found
found_below : (level top : ℕ) (q : List ℕ) (es : List (List ℕ × List Element)) (o : List Element) → AllByRecursion (λ e. IsBelow level top e.1) es → find key_cmp q es ≡ Some o → IsBelow level top o
found_below level top q [] o all e = absurd (cc)
found_below level top q (x ∷ es) o all e = elim (cases_Bool (eq_by_cmp key_cmp q x.0)) [
  | inl here ↦
      let found : Some x.1 ≡ Some o = sym (ap (λ b. cond b (Some x.1) (find key_cmp q es)) here) ∙ e in
      let value : x.1 ≡ o = cc in subst (IsBelow level top) value all.0
  | inr other ↦ found_below level top q es o all.1 (sym (ap (λ b. cond b (Some x.1) (find key_cmp q es)) other) ∙ e)
]

HasTop-entries : (level top : ℕ) (t : ElementTable) → AllByRecursion (λ e. IsBelow level top e.1) (entries t.entries) → HasTop level top t
HasTop-entries level top t all key es e = found_below level top key (entries t.entries) es all (sym (get-entries t.entries key) ∙ e)

pub IsAtMost-same : (t : Tops) → IsAtMost t t
IsAtMost-same t = record { first = omega arith; second = omega arith; third = omega arith }

pub IsAtMost-chain : (t u v : Tops) → IsAtMost t u → IsAtMost u v → IsAtMost t v
IsAtMost-chain t u v a b = record { first = omega (arith, a.first, b.first); second = omega (arith, a.second, b.second); third = omega (arith, a.third, b.third) }

pub HoldsElements-more : (t u : Tops) (es : List Element) → IsAtMost t u → HoldsElements t es → HoldsElements u es
HoldsElements-more t u es more holds = record { first = IsBelow-more 1 t.first u.first es more.first holds.first; second = IsBelow-more 2 t.second u.second es more.second holds.second; third = IsBelow-more 3 t.third u.third es more.third holds.third }

-- what holds of all entries, one part of it
each : (P Q : List Element → Type 0) (es : List (List ℕ × List Element)) → ((v : List Element) → P v → Q v) → AllByRecursion (λ e. P e.1) es → AllByRecursion (λ e. Q e.1) es
each P Q [] f all = tt
each P Q (e ∷ es) f all = (f e.1 all.0, each P Q es f all.1)

pub HaveTops-entries : (tops : Tops) (t : ElementTable) → AllByRecursion (λ e. HoldsElements tops e.1) (entries t.entries) → HaveTops tops t
HaveTops-entries tops t all = record {
  first = HasTop-entries 1 tops.first t (each (HoldsElements tops) (IsBelow 1 tops.first) (entries t.entries) (λ v h. h.first) all);
  second = HasTop-entries 2 tops.second t (each (HoldsElements tops) (IsBelow 2 tops.second) (entries t.entries) (λ v h. h.second) all);
  third = HasTop-entries 3 tops.third t (each (HoldsElements tops) (IsBelow 3 tops.third) (entries t.entries) (λ v h. h.third) all);
}

-- ## After a gap

pub raised_weight : (level w top x : ℕ) → x < 65536 → (moves level w x && x == max_weight level) ≡ false → moves level top x ≡ false → moves level (min (weight_with_gap level w top) 65535) (weight_with_gap level w x) ≡ false
raised_weight level w top x h room e = grind (arith, nat_tests)

pub above_is : (level top x : ℕ) → moves level top x ≡ true → top ≤ x
above_is level top x e = grind (arith, nat_tests)

-- ## Every weight can move

no_lack : (level w top x : ℕ) → top < max_weight level → moves level top x ≡ false → (moves level w x && x == max_weight level) ≡ false
no_lack level w top x h e = grind (arith, nat_tests)

below_lacks : (level w top : ℕ) (es : List Element) → top < max_weight level → IsBelow level top es → list_any (cannot_move level w) es ≡ false
below_lacks level w top [] h below = refl
below_lacks level w top (e ∷ es) h below =
    let b = parts_false (moves level top (weight level e)) _ below in
    both_false _ _ (no_lack level w top (weight level e) h b.0) (below_lacks level w top es h b.1)

both_T : (a b : Bool) → T (a && b) → T a × T b
both_T true b h = (tt, h)
both_T false b h = absurd h

less_apart : (o : Ordering) → T (is_lt o) → is_eq o ≡ false
less_apart Less h = refl
less_apart Equal h = absurd h
less_apart Greater h = absurd h

find-lower : (k : List ℕ) (es : List (List ℕ × List Element)) → T (below_all key_cmp k es) → find key_cmp k es ≡ None
find-lower k [] h = refl
find-lower k (e ∷ es) h =
    let b = both_T (is_lt (key_cmp k e.0)) (below_all key_cmp k es) h in
    ap (λ t. cond t (Some e.1) (find key_cmp k es)) (less_apart (key_cmp k e.0) b.0) ∙ find-lower k es b.1

equal : (o : Ordering) → is_eq o ≡ true → o ≡ Equal
equal Less e = absurd (cc)
equal Equal e = refl
equal Greater e = absurd (cc)

later : (q : List ℕ) (v : List Element) (e : List ℕ × List Element) (es : List (List ℕ × List Element)) → T (below_all key_cmp e.0 es) → find key_cmp q es ≡ Some v → find key_cmp q (e ∷ es) ≡ Some v
later q v e es below found = elim (cases_Bool (eq_by_cmp key_cmp q e.0)) [
  | inl tied ↦ absurd (let none : Some v ≡ None = sym found ∙ sym (find_tied key_cmp nat_list_cmp_total q e.0 (equal (key_cmp q e.0) tied) es) ∙ find-lower e.0 es below in cc)
  | inr other ↦ ap (λ b. cond b (Some e.1) (find key_cmp q es)) other ∙ found
]

-- a test that fails of all that is found fails of all values
values_none : (p : List Element → Bool) (es : List (List ℕ × List Element)) → T (is_sorted key_cmp es) → ((q : List ℕ) (v : List Element) → find key_cmp q es ≡ Some v → p v ≡ false) → list_any p (map (λ e. e.1) es) ≡ false
values_none p [] sorted each = refl
values_none p (e ∷ es) sorted each =
    let b = both_T (below_all key_cmp e.0 es) (is_sorted key_cmp es) sorted in
    both_false _ _ (each e.0 e.1 (ap (λ t. cond t (Some e.1) (find key_cmp e.0 es)) ((eq_by_cmp_equiv nat_list_cmp_total).refl e.0)))
    (values_none p es b.1 (λ q v found. each q v (later q v e es b.0 found)))

pub lacks_none : (level w top : ℕ) (t : ElementTable) → top < max_weight level → HasTop level top t → list_any (list_any (cannot_move level w)) (values t.entries) ≡ false
lacks_none level w top t h below = values_none (list_any (cannot_move level w)) (entries t.entries) (entries_sorted t.entries) (λ q v found. below_lacks level w top v h (below q v (get-entries t.entries q ∙ found)))

pub top_of : (level top : ℕ) (tops : Tops) (t : ElementTable) → IsLevel level → (level ≡ 1 → top ≡ tops.first) → (level ≡ 2 → top ≡ tops.second) → (level ≡ 3 → top ≡ tops.third) → HaveTops tops t → HasTop level top t
top_of level top tops t level_one f g h have = subst (λ x. HasTop 1 x t) (sym (f refl)) have.first
top_of level top tops t level_two f g h have = subst (λ x. HasTop 2 x t) (sym (g refl)) have.second
top_of level top tops t level_three f g h have = subst (λ x. HasTop 3 x t) (sym (h refl)) have.third
