-- What keys say about code points, and how the marks are laid out in blocks.
use Rattle.uca_table.proofs.Common.{◌≡◌, ℕ, suc, zero, ◌/◌, ◌<◌, Bool, true, false, cond, T, not, ◌||◌, ◌&&◌, ◌==◌, if◌then◌else◌, List, [], ◌∷◌, ◌++◌, length, get_or, Some, unwrap_or, refl, sym, ap, ap₂, ◌∙◌, arith, eq-eqb, eqb-true, and-true, and-false, and_assoc, and_comm, or-false, or-true, or_assoc, tied_itself, Less, Equal, Greater, nat_cmp, is_eq, ordering_reverse, slice_cmp, nat_list_cmp_total, entries, entries_sorted, find, get-entries, is_sorted, below_all, list_any, list_all, Element, ElementTable, key_cmp, elements_or_implicit, implicit, have_primaries_of, keeps_primary, is_before_last, is_cut-parts, Blocks, Marks, IsBlocks, place, Untouched, first_marks, keeps_longer, later_marks, marks, common_steps}
use Rattle.uca_table.specs.Marks.{all_said, join, later, said}
use Rattle.uca_model.specs.StandAlone.{begins, leads, continues}
use Rattle.uca_table.proofs.EntryLemmas.{left, less, right}

-- ---- what several say

join-none : (m : Marks) → join m Untouched ≡ m
unfolding join
join-none m = simp (or-false, and-true)

-- where none has said anything yet
pub none-join : (m whole : Marks) → m ≡ Untouched → join m whole ≡ whole
unfolding join
none-join m whole none = ap (λ k. join k whole) none

join-assoc : (a b c : Marks) → join a (join b c) ≡ join (join a b) c
unfolding join
join-assoc a b c = simp (or_assoc, and_assoc)

-- ---- the code points of a key

later-step : (m : Marks) (p x : ℕ) (xs : List ℕ) → join m (later p (x ∷ xs)) ≡ join (if x == p then join m (later_marks xs) else m) (later p xs)
unfolding join later
later-step m p x [] = grind (arith, common_steps, or-false, or-true, and-true, and-false)
later-step m p x (y ∷ xs) = grind (arith, common_steps, or-false, or-true, and-true, and-false)

-- one more after the first place
pub later-more : (m n more whole : Marks) (p x : ℕ) (xs rest : List ℕ) → rest ≡ x ∷ xs → more ≡ later_marks xs → n ≡ (if x == p then join m more else m) → join m (later p rest) ≡ whole → join n (later p xs) ≡ whole
later-more m n more whole p x xs rest is says new before = grind (arith, later-step m p x xs)

-- when none is left
pub later-none : (m whole : Marks) (p : ℕ) (rest : List ℕ) → length rest ≡ 0 → join m (later p rest) ≡ whole → m ≡ whole
unfolding later
later-none m whole p [] none before = sym (join-none m) ∙ before
later-none m whole p (x ∷ rest) none before = absurd (omega arith)

first-step : (t : ElementTable) (m : Marks) (p x : ℕ) (xs : List ℕ) (es : List Element) → join m (said t p (x ∷ xs, es)) ≡ join (if x == p then join m (first_marks t x xs es) else m) (later p xs)
unfolding join later said
first-step t m p x [] es = grind (arith, common_steps, or-false, or-true, and-true, and-false, and_assoc, and_comm)
first-step t m p x (y ∷ xs) es = grind (arith, common_steps, or-false, or-true, and-true, and-false, and_assoc, and_comm)

-- the first code point, and then the others
pub key-said : (t : ElementTable) (m n new more : Marks) (p x : ℕ) (xs key : List ℕ) (es : List Element) → key ≡ x ∷ xs → more ≡ first_marks t x xs es → n ≡ (if x == p then join m more else m) → new ≡ join n (later p xs) → new ≡ join m (said t p (key, es))
key-said t m n new more p x xs key es is says first others = grind (arith, first-step t m p x xs es)

pub none-said : (t : ElementTable) (m : Marks) (p : ℕ) (key : List ℕ) (es : List Element) → length key ≡ 0 → m ≡ join m (said t p (key, es))
unfolding said
none-said t m p [] es none = sym (join-none m)
none-said t m p (x ∷ key) es none = absurd (omega arith)

-- ---- all keys

-- keys below all later ones are below the one at a place
below_at : (k : List ℕ) (es : List (List ℕ × List Element)) (i : ℕ) (d : List ℕ × List Element) → T (below_all key_cmp k es) → i < length es → key_cmp k (get_or es i d).0 ≡ Less
below_at k [] i d h within = absurd (omega arith)
below_at k (e ∷ es) zero d h within = less _ (left _ _ h)
below_at k (e ∷ es) (suc i) d h within = below_at k es i d (right _ _ h) (omega arith)

-- the key at a place is found there
found_at : (es : List (List ℕ × List Element)) (i : ℕ) (q : List ℕ) (d : List ℕ × List Element) → T (is_sorted key_cmp es) → i < length es → slice_cmp nat_cmp (get_or es i d).0 q ≡ Equal → find key_cmp q es ≡ Some (get_or es i d).1
found_at [] i q d sorted within here = absurd (omega arith)
found_at (e ∷ es) zero q d sorted within here = ap (λ o. cond (is_eq o) (Some e.1) (find key_cmp q es)) (nat_list_cmp_total.antisymm q e.0 ∙ ap ordering_reverse here)
found_at (e ∷ es) (suc i) q d sorted within here =
    let below : key_cmp e.0 _ ≡ Less = below_at e.0 es i d (left _ _ sorted) (omega arith) in
    let other : key_cmp q e.0 ≡ Greater = sym (nat_list_cmp_total.congr _ q e.0 here) ∙ nat_list_cmp_total.antisymm _ e.0 ∙ ap ordering_reverse below in
    rw other (found_at es i q d (right _ _ sorted) (omega arith) here)

own_primaries : (es : List Element) → have_primaries_of es es ≡ true
own_primaries [] = refl
own_primaries (e ∷ es) = ap₂ (λ a b. a && b) (ap₂ (λ a b. a && b) (eq-eqb e.l1 e.l1 refl) (own_mark e.starred)) (own_primaries es) where
  own_mark : (b : Bool) → (if b then b else not b) ≡ true
  own_mark true = refl
  own_mark false = refl

-- a key that is a code point alone has its primary weights
alone_keeps : (t : ElementTable) (p : ℕ) (key : List ℕ) (es : List Element) → find key_cmp key (entries t.entries) ≡ Some es → keeps_longer t p (key, es) ≡ keeps_primary t p (key, es)
alone_keeps t p [] es found = refl
alone_keeps t p (x ∷ []) es found = by_first (x == p) refl where
  by_first : (b : Bool) → (x == p) ≡ b → true ≡ (not (x == p) || have_primaries_of (elements_or_implicit t (p ∷ [])) es)
  by_first false e = sym (ap (λ d. not d || have_primaries_of (elements_or_implicit t (p ∷ [])) es) e)
  by_first true e =
      let own : elements_or_implicit t (p ∷ []) ≡ es = ap (λ q. elements_or_implicit t (q ∷ [])) (sym (eqb-true x p e)) ∙ ap (λ o. unwrap_or o (implicit t x)) (get-entries t.entries (x ∷ []) ∙ found) in
      sym (ap (λ d. not d || have_primaries_of (elements_or_implicit t (p ∷ [])) es) e ∙ ap (λ l. have_primaries_of l es) own ∙ own_primaries es)
alone_keeps t p (x ∷ y ∷ key) es found = refl

same_all : (f g : List ℕ × List Element → Bool) (es : List (List ℕ × List Element)) → ((i : ℕ) (d : List ℕ × List Element) → i < length es → f (get_or es i d) ≡ g (get_or es i d)) → list_all f es ≡ list_all g es
same_all f g [] same = refl
same_all f g (e ∷ es) same = ap₂ (λ a b. a && b) (same 0 e (omega arith)) (same_all f g es (λ i d within. same (suc i) d (omega arith)))

all-marks : (t : ElementTable) (p : ℕ) → all_said t p (entries t.entries) ≡ marks t p
unfolding all_said begins leads continues
all-marks t p =
    let all : List (List ℕ × List Element) = entries t.entries in
    ap (λ k. record (marks t p) { keeps = k }) (same_all (keeps_longer t p) (keeps_primary t p) all (λ i d within.
    alone_keeps t p (get_or all i d).0 (get_or all i d).1 (found_at all i (get_or all i d).0 d (entries_sorted t.entries) within (tied_itself nat_list_cmp_total (get_or all i d).0))))

-- one more key
pub keys-more : (t : ElementTable) (m n whole : Marks) (p : ℕ) (key : List ℕ) (es : List Element) (left rest : List (List ℕ × List Element)) → left ≡ (key, es) ∷ rest → n ≡ join m (said t p (key, es)) → join m (all_said t p left) ≡ whole → join n (all_said t p rest) ≡ whole
unfolding join said all_said
keys-more t m n whole p key es left rest is step before = ap (λ k. join k (all_said t p rest)) step ∙ sym (join-assoc m (said t p (key, es)) (all_said t p rest)) ∙ ap (λ l. join m (all_said t p l)) (sym is) ∙ before

-- when no key is left
pub keys-none : (t : ElementTable) (m : Marks) (p : ℕ) (left : List (List ℕ × List Element)) → left ≡ [] → join m (all_said t p left) ≡ all_said t p (entries t.entries) → m ≡ marks t p
unfolding all_said
keys-none t m p left none whole = sym (join-none m) ∙ ap (λ l. join m (all_said t p l)) (sym none) ∙ whole ∙ all-marks t p

pub ruleset keys_said = (common_steps, none-join, keys-none)

-- ---- blocks

-- two code points with one place, which their block does not share, are one
pub same_point : {X : Type 0} (none : X) (x : Blocks X) (c d : ℕ) → IsBlocks none x → 0 < get_or x.numbers.items (c / 128) 0 → place x.numbers.items d ≡ place x.numbers.items c → d ≡ c
same_point none x c d are own same = grind (arith, common_steps)

-- ---- where a text may be cut, and where a match ends

pub ruleset cuts = (common_steps, is_cut-parts)

pub before_last : (p x : ℕ) (xs : List ℕ) → is_before_last p (xs ++ x ∷ []) ≡ list_any (λ y. y == p) xs
before_last p x [] = refl
before_last p x (y ∷ []) = refl
before_last p x (y ∷ z ∷ xs) = ap (λ b. y == p || b) (before_last p x (z ∷ xs))
