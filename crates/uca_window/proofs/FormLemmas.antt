-- Lemmas on the NFD of points that are decomposed and in order, and of the characters after them, and on their segments.
use Rattle.std.proofs.Common.{◌≡◌, ℕ, zero, suc, ◌<◌, ◌≤◌, Bool, true, List, [], ◌∷◌, ◌++◌, drop, flat_map, refl, sym, ap, ◌∙◌, arith, append_assoc, append-nil, ◌+◌, ◌-◌, length, take, get_or, subst, suc-le-suc, take-append-drop, length-take-le, length-drop, get_or-take, get_or-drop, length-append, inl, inr}
use Rattle.std.proofs.lemmas.Grind.{flat_map-append, common_steps}
use Rattle.std.specs.List.{list_all}
use Rattle.unicode.specs.CanonicalCombiningClass.{canonical_combining_class as ccc}
use Rattle.unicode_normalization.specs.Decompose.{decompose_canonical}
use Rattle.unicode_normalization.specs.Forms.{Nfd, nfd, IsInForm}
use Rattle.unicode_normalization.specs.Order.{is_ordered, canonical_order, is_starter, is_nonstarter}
use Rattle.unicode_normalization.proofs.ComposeLemmas.{list_all-append, flat_map-final, is_starter-true, is_starter_from, not_starter_from, list_all-push}
use Rattle.unicode_normalization.proofs.DecomposeLemmas.{decompose-final, IsFull-decompose}
use Rattle.unicode_normalization.proofs.OrderLemmas.{is_reorderable-false, not_reorderable_starter, not_reorderable_rising, is_reorderable_from, canonical_order-nil, canonical_order-front, canonical_order-exchange, canonical_order-at_starter, canonical_order-ordered, is_ordered-canonical_order, is_ordered-parts, is_ordered-cons, is_ordered-one, is_ordered-nil, is_ordered-tail, list_all-canonical_order, length-canonical_order}
use Rattle.unicode_normalization.proofs.TableFacts.{is_final}
use Rattle.uca_model.proofs.SafeLemmas.{nfd-is}
use Rattle.std.proofs.lemmas.List.{take_more, drop_at, nil_from_length}
use Rattle.uca_window.specs.Segment.{IsPlaceOf, IsOpen}
use Rattle.std.proofs.lemmas.Bool.{cases_Bool, cases_lt, and_parts, and_from, not_from_false}
use Rattle.std.proofs.lemmas.List.Folds.{list_all-append as list_all-split}
use Rattle.unicode_normalization.proofs.FormsLemmas.{normalize-nil}
use Rattle.uca_model.specs.Window.{begins_segment}

-- what the characters decompose to, not yet in order
abbrev pub parts : List ℕ → List ℕ
parts = flat_map decompose_canonical

-- each code point is its own decomposition
abbrev pub all_final : List ℕ → Bool
all_final = list_all (is_final Nfd)

-- what characters decompose to is decomposed
final-parts : (cs : List ℕ) → all_final (parts cs) ≡ true
final-parts [] = refl
final-parts (c ∷ cs) = list_all-append (is_final Nfd) _ _ (IsFull-decompose Nfd c).final (final-parts cs)

-- decomposed code points stay as they are
parts-final : (ds : List ℕ) → all_final ds ≡ true → parts ds ≡ ds
parts-final ds = flat_map-final decompose_canonical (is_final Nfd) (decompose-final Nfd) ds

-- ---- lists in NFD

-- a list in NFD is in order
pub ordered-IsInForm : (ds : List ℕ) → IsInForm Nfd ds → is_ordered ds ≡ true
ordered-IsInForm ds h = ap is_ordered (sym h ∙ nfd-is ds) ∙ is_ordered-canonical_order _

-- and decomposed
pub final-IsInForm : (ds : List ℕ) → IsInForm Nfd ds → all_final ds ≡ true
final-IsInForm ds h = ap all_final (sym h ∙ nfd-is ds) ∙ list_all-canonical_order (is_final Nfd) _ (final-parts ds)

-- a list that is both is in NFD
pub IsInForm-from : (ds : List ℕ) → all_final ds ≡ true → is_ordered ds ≡ true → IsInForm Nfd ds
IsInForm-from ds final ordered = nfd-is ds ∙ ap canonical_order (parts-final ds final) ∙ canonical_order-ordered ds ordered

-- ---- points, and characters after them

-- decomposed points count as they are in the NFD of one list
pub nfd-points : (ps cs : List ℕ) → all_final ps ≡ true → nfd (ps ++ cs) ≡ canonical_order (ps ++ parts cs)
nfd-points ps cs final = grind (arith, common_steps, nfd-is, flat_map-append, parts-final)

-- one character may be decomposed and put in order after the points before the others are
pub nfd-read : (ps : List ℕ) (c : ℕ) (cs : List ℕ) → IsInForm Nfd ps → nfd (canonical_order (ps ++ decompose_canonical c) ++ cs) ≡ nfd (ps ++ c ∷ cs)
nfd-read ps c cs h =
    let final = final-IsInForm ps h in
    let now = list_all-append (is_final Nfd) ps (decompose_canonical c) final (IsFull-decompose Nfd c).final in
    nfd-points _ cs (list_all-canonical_order (is_final Nfd) _ now)
    ∙ canonical_order-front (ps ++ decompose_canonical c) (parts cs)
    ∙ ap canonical_order (append_assoc ps (decompose_canonical c) (parts cs))
    ∙ sym (nfd-points ps (c ∷ cs) final)

-- and then the points are in NFD again
pub IsInForm-read : (ps : List ℕ) (c : ℕ) → IsInForm Nfd ps → IsInForm Nfd (canonical_order (ps ++ decompose_canonical c))
IsInForm-read ps c h =
    IsInForm-from _
    (list_all-canonical_order (is_final Nfd) _ (list_all-append (is_final Nfd) ps (decompose_canonical c) (final-IsInForm ps h) (IsFull-decompose Nfd c).final))
    (is_ordered-canonical_order _)

-- ---- the order of a list whose front is in order already

-- after a starter the nonstarters are put in order by themselves
pub order-parted : (front : List ℕ) (s : ℕ) (marks later : List ℕ) → ccc s ≤ 0 → is_ordered front ≡ true → canonical_order ((front ++ s ∷ marks) ++ later) ≡ front ++ s ∷ canonical_order (marks ++ later)
order-parted front s marks later starter ordered = grind (arith, common_steps, append_assoc, canonical_order-at_starter, canonical_order-ordered)

-- a starter stays at the end
pub order-push : (xs : List ℕ) (s : ℕ) → ccc s ≤ 0 → is_ordered xs ≡ true → canonical_order (xs ++ s ∷ []) ≡ xs ++ s ∷ []
order-push xs s starter h = grind (arith, common_steps, canonical_order-at_starter, canonical_order-ordered, canonical_order-nil)

-- ---- parts of a list in order

-- its front
pub is_ordered-front : (xs ys : List ℕ) → is_ordered (xs ++ ys) ≡ true → is_ordered xs ≡ true
is_ordered-front [] ys h = is_ordered-nil
is_ordered-front (x ∷ []) ys h = is_ordered-one x
is_ordered-front (x ∷ y ∷ xs) ys h =
    let both = is_ordered-parts x y (xs ++ ys) h in is_ordered-cons x y xs both.0 (is_ordered-front (y ∷ xs) ys both.1)

-- what is left without its first code points
pub is_ordered-drop : (n : ℕ) (xs : List ℕ) → is_ordered xs ≡ true → is_ordered (drop n xs) ≡ true
is_ordered-drop zero xs h = h
is_ordered-drop (suc n) [] h = h
is_ordered-drop (suc n) (x ∷ xs) h = is_ordered-drop n xs (is_ordered-tail x xs h)

-- what is left without a nonstarter
pub is_ordered-without : (xs : List ℕ) (m : ℕ) (ys : List ℕ) → 0 < ccc m → is_ordered (xs ++ m ∷ ys) ≡ true → is_ordered (xs ++ ys) ≡ true
is_ordered-without [] m ys mark h = is_ordered-tail m ys h
is_ordered-without (x ∷ []) m [] mark h = is_ordered-one x
is_ordered-without (x ∷ []) m (y ∷ ys) mark h = grind (arith, common_steps, is_ordered-parts, is_reorderable-false, not_reorderable_starter, not_reorderable_rising, is_ordered-cons)
is_ordered-without (x ∷ z ∷ xs) m ys mark h =
    let both = is_ordered-parts x z (xs ++ m ∷ ys) h in is_ordered-cons x z (xs ++ ys) both.0 (is_ordered-without (z ∷ xs) m ys mark both.1)

-- ---- a nonstarter in its place

-- the last code point has no class above this one
abbrev EndsAtMost : ℕ → List ℕ → Type 0
EndsAtMost n xs = (k : ℕ) → suc k ≡ length xs → ccc (get_or xs k 0) ≤ n

-- all have classes above this one
abbrev AreAbove : ℕ → List ℕ → Type 0
AreAbove n xs = (k : ℕ) → k < length xs → n < ccc (get_or xs k 0)

-- a list stays in order with a nonstarter between these
is_ordered-with : (xs : List ℕ) (d : ℕ) (zs : List ℕ) → is_ordered (xs ++ zs) ≡ true → EndsAtMost (ccc d) xs → AreAbove (ccc d) zs → is_ordered (xs ++ d ∷ zs) ≡ true
is_ordered-with [] d [] h low high = is_ordered-one d
is_ordered-with [] d (z ∷ zs) h low high = let above : ccc d < ccc z = high 0 (omega arith) in is_ordered-cons d z zs (not_reorderable_rising d z (omega arith)) h
is_ordered-with (x ∷ []) d zs h low high = grind (arith, common_steps, is_ordered-cons, not_reorderable_rising, is_ordered-tail, low 0 refl, is_ordered-with [] d zs (is_ordered-tail x zs h) (λ k (e : suc k ≡ 0). absurd (omega arith)) high)
is_ordered-with (x ∷ y ∷ xs) d zs h low high =
    let both = is_ordered-parts x y (xs ++ zs) h in is_ordered-cons x y (xs ++ d ∷ zs) both.0 (is_ordered-with (y ∷ xs) d zs both.1 (λ k e. low (suc k) (ap suc e)) high)

-- a nonstarter at the end goes before all those of higher classes
order-moved : (xs zs : List ℕ) (d : ℕ) → 0 < ccc d → AreAbove (ccc d) zs → canonical_order ((xs ++ zs) ++ d ∷ []) ≡ canonical_order (xs ++ d ∷ zs)
order-moved xs [] d mark high = ap (λ l. canonical_order (l ++ d ∷ [])) (append-nil xs)
order-moved xs (z ∷ zs) d mark high = grind (arith, common_steps, append_assoc, canonical_order-exchange, is_reorderable_from, high 0 (omega arith), order-moved (xs ++ z ∷ []) zs d mark (λ k lt. high (suc k) (suc-le-suc lt)))

-- and that is its place
pub order-insert : (xs zs : List ℕ) (d : ℕ) → 0 < ccc d → is_ordered (xs ++ zs) ≡ true → EndsAtMost (ccc d) xs → AreAbove (ccc d) zs → canonical_order ((xs ++ zs) ++ d ∷ []) ≡ xs ++ d ∷ zs
order-insert xs zs d mark h low high = grind (arith, common_steps, order-moved, canonical_order-ordered, is_ordered-with)

pub ruleset push_steps = (common_steps, order-push)

-- ---- what a character decomposes to, put among points in order one by one

-- a nonstarter in its place among the points
pub order-placed : (points : List ℕ) (d at : ℕ) → IsPlaceOf points (ccc d) at → is_ordered points ≡ true → 0 < ccc d → take at points ++ d ∷ drop at points ≡ canonical_order (points ++ d ∷ [])
order-placed points d at h ordered mark =
    let whole = take-append-drop at points in
    let size = length-take-le at points h.within in
    let low : EndsAtMost (ccc d) (take at points) = λ k e.
    let last : k ≡ at - 1 = omega arith in
    let inside : k < at = omega arith in
    subst (λ x. x ≤ ccc d) (ap (λ j. ccc (get_or points j 0)) (sym last) ∙ ap ccc (sym (get_or-take at points k 0 inside))) (h.before (omega arith)) in
    let high : AreAbove (ccc d) (drop at points) = λ k lt.
    subst (λ x. ccc d < ccc x) (sym (get_or-drop at points k 0)) (h.after (at + k) (omega arith) (omega (arith, length-drop at points))) in
    sym (order-insert (take at points) (drop at points) d mark (ap is_ordered whole ∙ ordered) low high)
    ∙ ap (λ l. canonical_order (l ++ d ∷ [])) whole

-- one part more after points and the first parts
pub order-more : (front parts : List ℕ) (i part : ℕ) (points after : List ℕ) → i < length parts → part ≡ get_or parts i part → points ≡ canonical_order (front ++ take i parts) → after ≡ canonical_order (points ++ part ∷ []) → after ≡ canonical_order (front ++ take (i + 1) parts)
order-more front parts i part points after inside read was now = grind (arith, common_steps, canonical_order-front, append_assoc, take_more)

-- no part yet
pub order-none : (front : List ℕ) → is_ordered front ≡ true → front ≡ canonical_order (front ++ [])
order-none front h = sym (ap canonical_order (append-nil front) ∙ canonical_order-ordered front h)

-- how many points there are with the first parts
pub length-ordered : (front parts points : List ℕ) (i : ℕ) → i ≤ length parts → points ≡ canonical_order (front ++ take i parts) → length points ≡ length front + i
length-ordered front parts points i inside e = grind (arith, common_steps, length-canonical_order, length-append, length-take-le)

-- ---- segments: what one more point does to them, and that the NFD may be cut after a closed one

-- ---- tests of each code point

-- of two parts of a list
pub list_all-parts : (p : ℕ → Bool) (xs ys : List ℕ) → list_all p (xs ++ ys) ≡ true → (list_all p xs ≡ true) × (list_all p ys ≡ true)
list_all-parts p xs ys h = and_parts (list_all p xs) (list_all p ys) (sym (list_all-split p xs ys) ∙ h)

-- of what is left without the first ones
pub list_all-drop : (p : ℕ → Bool) (n : ℕ) (xs : List ℕ) → list_all p xs ≡ true → list_all p (drop n xs) ≡ true
list_all-drop p zero xs h = h
list_all-drop p (suc n) [] h = h
list_all-drop p (suc n) (x ∷ xs) h = list_all-drop p n xs (and_parts (p x) (list_all p xs) h).1

-- of the first ones
pub list_all-take : (p : ℕ → Bool) (n : ℕ) (xs : List ℕ) → list_all p xs ≡ true → list_all p (take n xs) ≡ true
list_all-take p n xs h = (list_all-parts p (take n xs) (drop n xs) (ap (list_all p) (take-append-drop n xs) ∙ h)).0

-- a class above 0 is that of a nonstarter
pub nonstarter_from : (d : ℕ) → 0 < ccc d → is_nonstarter d ≡ true
nonstarter_from d h = not_from_false _ (not_starter_from d h)

-- ---- a cut before a starter, or at the end of all

-- the NFD of all is the front, and the NFD of what follows it
pub nfd-cut : (front back left : List ℕ) → all_final (front ++ back) ≡ true → is_ordered front ≡ true → (0 < length front → begins_segment back ≡ true) → (0 < length front → back ≡ [] → left ≡ []) → nfd ((front ++ back) ++ left) ≡ front ++ nfd (back ++ left)
nfd-cut [] back left final ordered begins last = refl
nfd-cut (f ∷ front) [] left final ordered begins last = let none : left ≡ [] = last (omega arith) refl in grind (arith, common_steps, append-nil, IsInForm-from, list_all-parts, is_final, normalize-nil)
nfd-cut (f ∷ front) (s ∷ marks) left final ordered begins last =
    let starter = is_starter-true s (begins (omega arith)) in
    let own = (list_all-parts (is_final Nfd) (f ∷ front) (s ∷ marks) final).1 in
    nfd-points (f ∷ front ++ s ∷ marks) left final
    ∙ order-parted (f ∷ front) s marks (parts left) starter ordered
    ∙ ap (λ l. (f ∷ front) ++ l) (sym (nfd-points (s ∷ marks) left own ∙ order-parted [] s marks (parts left) starter is_ordered-nil))

-- and that begins with a starter too, or is nothing
pub nfd-begins : (back left : List ℕ) → all_final back ≡ true → begins_segment back ≡ true → (back ≡ [] → left ≡ []) → begins_segment (nfd (back ++ left)) ≡ true
nfd-begins [] left final begins last = ap (λ l. begins_segment (nfd l)) (last refl) ∙ ap begins_segment (normalize-nil Nfd)
nfd-begins (s ∷ marks) left final begins last =
    ap begins_segment (nfd-points (s ∷ marks) left final ∙ order-parted [] s marks (parts left) (is_starter-true s begins) is_ordered-nil) ∙ begins

-- ---- one more point

-- a nonstarter joins an open segment that begins with a starter
after_starter : (front : List ℕ) (s : ℕ) (marks : List ℕ) (d closed : ℕ) (after : List ℕ) → closed ≡ length front → is_ordered front ≡ true → ccc s ≤ 0 → list_all is_nonstarter marks ≡ true → 0 < ccc d
    → after ≡ canonical_order ((front ++ s ∷ marks) ++ d ∷ []) → IsOpen closed after
after_starter front s marks d closed after e ordered starter all mark h = grind (arith, common_steps, order-parted, drop_at, length-append, is_starter_from, list_all-canonical_order, list_all-push, nonstarter_from)

-- a nonstarter joins nonstarters at the start
among_marks : (marks : List ℕ) (d : ℕ) (after : List ℕ) → list_all is_nonstarter marks ≡ true → 0 < ccc d → after ≡ canonical_order (marks ++ d ∷ []) → IsOpen 0 after
among_marks marks d after all mark h =
    record {
      within = omega arith;
      begins = λ (z : 0 < 0). absurd (omega arith);
      nonstarters =
          list_all-drop is_nonstarter 1 after
          (ap (list_all is_nonstarter) h ∙ list_all-canonical_order is_nonstarter _ (list_all-push is_nonstarter marks d all (nonstarter_from d mark)));
      some = λ (z : 0 < 0). absurd (omega arith);
    }

-- a nonstarter joins the open segment, whatever it begins with
mark_at_back : (front back : List ℕ) (d closed : ℕ) (after : List ℕ) → closed ≡ length front → is_ordered front ≡ true → (0 < closed → begins_segment back ≡ true) → list_all is_nonstarter (drop 1 back) ≡ true → (0 < closed → 0 < length back) → 0 < ccc d
    → after ≡ canonical_order ((front ++ back) ++ d ∷ []) → IsOpen closed after
mark_at_back [] [] d closed after e ordered begins marks some mark h =
    subst (λ n. IsOpen n after) (sym e) (among_marks [] d after refl mark h)
mark_at_back (f ∷ front) [] d closed after e ordered begins marks some mark h = let none = some (omega arith) in absurd (omega arith)
mark_at_back front (s ∷ rest) d closed after e ordered begins marks some mark h =
    elim (cases_Bool (is_starter s)) [
      | inl starter ↦ after_starter front s rest d closed after e ordered (is_starter-true s starter) marks mark h
      | inr other ↦
          elim (cases_lt 0 closed) [
            | inl positive ↦ let clash = sym (begins positive) ∙ other in cc
            | inr none ↦
                let nothing : front ≡ [] = nil_from_length front (omega arith) in
                let first : closed ≡ 0 = omega arith in
                subst (λ n. IsOpen n after) (sym first)
                (among_marks (s ∷ rest) d after (and_from _ _ (not_from_false _ other) marks) mark (h ∙ ap (λ l. canonical_order ((l ++ s ∷ rest) ++ d ∷ [])) nothing))
          ]
    ]

-- a nonstarter closes no segment
pub IsOpen-mark : (closed : ℕ) (points : List ℕ) (d : ℕ) (after : List ℕ) → IsOpen closed points → is_ordered points ≡ true → 0 < ccc d → after ≡ canonical_order (points ++ d ∷ []) → IsOpen closed after
IsOpen-mark closed points d after h ordered mark e =
    let whole = take-append-drop closed points in
    mark_at_back (take closed points) (drop closed points) d closed after
    (sym (length-take-le closed points h.within))
    (is_ordered-front (take closed points) (drop closed points) (ap is_ordered whole ∙ ordered))
    h.begins h.nonstarters
    (λ positive. let some = h.some positive in omega (arith, length-drop closed points))
    mark (e ∙ ap (λ l. canonical_order (l ++ d ∷ [])) (sym whole))
