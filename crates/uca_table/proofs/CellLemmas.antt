-- Cells of characters, and texts that go character by character where the elements stand alone.
use Rattle.uca_table.proofs.Common.{◌≡◌, ℕ, ◌+◌, ◌/◌, ◌≤◌, ◌<◌, true, false, cond, List, [], ◌∷◌, ◌++◌, length, take, drop, get_or, set, refl, sym, ap, subst, ◌∙◌, arith, inl, inr, append_assoc, append-nil, length-append, le-leb, cases_Bool, cases_eq, cases_lt, not-true, on_ok_weaker, list_any, entries, nil_from_length, get_or_read, get_or-set_same, get_or-set_other, length-set, take-append-le, drop-append-le, length-drop, take-append-drop, drop_more, drop-drop, drop_all, drop_at, take_all, Result, Ok, Err, OnOk, nfd, Element, ElementTable, elements, implicit, is_first, is_longer_from, bearing_of, joining, bearing, IsApart, apart-alone, apart-before, apart-end, elements_none, elements-one, elements-unknown, nfd-single, joining-most, Blocks, Marks, IsBlocks, place, IsCell, AreCells, Grows, unknown, HoldsLeads, IsLeadWeight, Untouched, common_steps}
use Rattle.uca_model.specs.StandAlone.{begins, leads}
use Rattle.std.specs.Result.{is_ok}
use Rattle.unicode_normalization.specs.Decompose.{decompose_canonical}
use Rattle.unicode_normalization.specs.Order.{is_starter}
use Rattle.uca_table.specs.declared.characters.Cell.{Cell}
use Rattle.uca_table.proofs.MarkLemmas.{same_point}

-- ---- cells

pub drop-old : (old more new : List Element) → new ≡ old ++ more → drop (length old) new ≡ more
drop-old old more new e = ap (drop (length old)) e ∙ drop_at old more (length old) refl

-- what was appended lies where the rest began
pub taken-fresh : (old more new : List Element) (start count : ℕ) → new ≡ old ++ more → start ≡ length old → start + count ≡ length new → take count (drop start new) ≡ more
taken-fresh old more new start count e at end = grind (arith, common_steps, length-append, drop-old, take_all)

-- what lies among the elements so far stays where more follow
taken-grown : (es more : List Element) (start count : ℕ) → Grows es more → start + count ≤ length es → take count (drop start more) ≡ take count (drop start es)
taken-grown es more start count grows within =
    ap (λ l. take count (drop start l)) grows ∙ ap (take count) (drop-append-le start es (drop (length es) more) (omega arith))
    ∙ take-append-le count (drop start es) (drop (length es) more) (omega (arith, length-drop start es))

-- and so a cell stays sound
IsCell-grown : (t : ElementTable) (es more : List Element) (c : ℕ) (cell : Cell) → Grows es more → IsCell t es c cell → IsCell t more c cell
IsCell-grown t es more c cell grows h = record {
  joining = h.joining;
  bearing = h.bearing;
  cut = h.cut;
  within = omega (arith, h.within, ap length grows, length-append es (drop (length es) more));
  one = h.one;
  lead = h.lead;
  elements = λ some. taken-grown es more cell.start cell.count grows h.within ∙ h.elements some;
}

-- and all cells where more elements follow, with one more cell at the place of its character
pub AreCells-put : (t : ElementTable) (es more : List Element) (x : Blocks Marks) (cells : List Cell) (c at : ℕ) (cell : Cell) → IsBlocks Untouched x → c / 128 < 8704 → 0 < get_or x.numbers.items (c / 128) 0 → at ≡ place x.numbers.items c → Grows es more
    → IsCell t more c cell → AreCells t es x.numbers.items cells → AreCells t more x.numbers.items (set cells at cell)
AreCells-put t es more x cells c at cell are inside own is grows here old = record { all = old.all; within = λ b lt. omega (arith, old.within b lt, length-set cells at cell); each = each } where
  within : at < length cells
  within = omega (arith, is, old.within (c / 128) inside)

  each : (d : ℕ) → IsCell t more d (get_or (set cells at cell) (place x.numbers.items d) unknown)
  each d = elim (cases_eq (place x.numbers.items d) at) [
    | inl same ↦ let one : d ≡ c = same_point Untouched x c d are own (same ∙ is) in rw (same, get_or-set_same cells at cell unknown within, one) here
    | inr other ↦ rw (get_or-set_other cells at (place x.numbers.items d) cell unknown other) (IsCell-grown t es more d (get_or cells (place x.numbers.items d) unknown) grows (old.each d))
  ]

-- one more code point after others bears what it does by itself, unless one of them leads a key
pub bearing-more : (t : ElementTable) (xs : List ℕ) (p : ℕ) → 0 < bearing_of t xs → bearing_of t (xs ++ p ∷ []) ≡ bearing_of t (p ∷ [])
bearing-more t [] p bears = refl
bearing-more t (x ∷ []) p bears = grind (arith, common_steps, cases_Bool (leads t x))
bearing-more t (x ∷ y ∷ xs) p bears = grind (arith, common_steps, cases_Bool (leads t x), bearing-more t (y ∷ xs) p)

-- ---- leads

-- one more weight of the first characters
pub leads-put : (t : ElementTable) (ws : List ℕ) (p w : ℕ) → p < length ws → HoldsLeads t ws → (0 < w → IsLeadWeight t p w) → HoldsLeads t (set ws p w)
leads-put t ws p w within old own = record { size = length-set ws p w ∙ old.size; each = each } where
  each : (c : ℕ) → 0 < get_or (set ws p w) c 0 → IsLeadWeight t c (get_or (set ws p w) c 0)
  each c = elim (cases_eq c p) [
    | inl same ↦ rw (same, get_or-set_same ws p w 0 within) own
    | inr other ↦ rw (get_or-set_other ws p c w 0 other) (old.each c)
  ]

-- ---- texts

-- elements of a character, where the text after it joins no more than it bears
pub alone-before : (t : ElementTable) (c : ℕ) (after : List ℕ) (es : List Element) (most : ℕ) → es ≡ elements t (nfd (c ∷ [])) → most ≤ bearing t c → ((n : ℕ) (x : List ℕ) → after ≡ n ∷ x → joining t n ≤ most) → es ++ elements t (nfd after) ≡ elements t (nfd (c ∷ after))
alone-before t c [] es most are bears joins = ap (λ l. l ++ elements t (nfd [])) are ∙ sym (apart-alone t c [] refl)
alone-before t c (n ∷ x) es most are bears joins =
    let fits : joining t n ≤ bearing t c = omega (arith, joins n x refl, bears) in
    ap (λ l. l ++ elements t (nfd (n ∷ x))) are ∙ sym (apart-alone t c (n ∷ x) (le-leb (joining t n) (bearing t c) fits))

-- any text may follow what bears as much as a text can join
pub alone-by : (t : ElementTable) (c : ℕ) (after : List ℕ) (es : List Element) (most : ℕ) → es ≡ elements t (nfd (c ∷ [])) → most ≤ bearing t c → (most < 2 → (n : ℕ) (x : List ℕ) → after ≡ n ∷ x → joining t n ≤ most) → es ++ elements t (nfd after) ≡ elements t (nfd (c ∷ after))
alone-by t c after es most are bears joins = alone-before t c after es most are bears (λ n x e. let any : joining t n ≤ 2 = joining-most t (decompose_canonical n) in elim (cases_lt most 2) [
  | inl less ↦ joins less n x e
  | inr more ↦ omega (arith, any, more)
])

pub run-apart : (t : ElementTable) (text : List ℕ) (n : ℕ) → n ≤ length text → (n < length text → joining t (get_or text n 0) ≤ 0) → elements t (nfd (take n text)) ++ elements t (nfd (drop n text)) ≡ elements t (nfd text)
run-apart t text n within fresh = sym apart ∙ ap (λ l. elements t (nfd l)) (take-append-drop n text) where
  apart : IsApart t (take n text) (drop n text)
  apart = elim (cases_lt n (length text)) [
    | inl before ↦ subst (IsApart t (take n text)) (sym (drop_more text n 0 before)) (apart-before t (take n text) (drop (n + 1) text) (get_or text n 0) (fresh before))
    | inr past ↦ subst (IsApart t (take n text)) (sym (drop_all n text past)) (apart-end t (take n text))
  ]

-- ---- a character without key

longer-none : (p : ℕ) (key : List ℕ) → is_first p key ≡ false → is_longer_from p key ≡ false
longer-none p [] h = refl
longer-none p (x ∷ []) h = refl
longer-none p (x ∷ y ∷ key) h = h

none-longer : (p : ℕ) (es : List (List ℕ × List Element)) → list_any (λ e. is_first p e.0) es ≡ false → list_any (λ e. is_longer_from p e.0) es ≡ false
none-longer p [] h = refl
none-longer p (e ∷ es) h = grind (arith, common_steps, longer-none, none-longer p es)

bears-all : (t : ElementTable) (p : ℕ) → begins t p ≡ false → is_starter p ≡ true → 2 ≤ bearing_of t (p ∷ [])
unfolding begins leads
bears-all t p none starter = let longer : leads t p ≡ false = none-longer p (entries t.entries) none in grind (arith, common_steps, longer)

-- a starter without key that is its own NFD stands alone, with its implicit elements
pub implicit-alone : (t : ElementTable) (c : ℕ) (after : List ℕ) (es : List Element) → begins t c ≡ false → decompose_canonical c ≡ c ∷ [] → is_starter c ≡ true → es ≡ implicit t c → es ++ elements t (nfd after) ≡ elements t (nfd (c ∷ after))
implicit-alone t c after es none own starter is =
    let bears : bearing t c ≡ bearing_of t (c ∷ []) = ap (bearing_of t) own in
    alone-by t c after es 2 (is ∙ sym (elements-unknown t c none) ∙ ap (elements t) (sym (nfd-single c c own))) (omega (arith, bears, bears-all t c none starter)) (λ few n x e. absurd (omega (arith, few)))

-- ---- what is appended

-- what was appended, where memory was not refused
pub pushed-ok : {E : Type 0} (r : Result (Unit {0}) E) (old new more other : List Element) → new ≡ cond (is_ok r) (old ++ more) old → more ≡ other → OnOk r (new ≡ old ++ other)
pushed-ok (Ok x) old new more other e same = e ∙ ap (λ l. old ++ l) same
pushed-ok (Err x) old new more other e same = tt

pub ruleset singles = (common_steps, not-true, pushed-ok, on_ok_weaker, elements-one, elements-unknown)

-- texts character by character
pub ruleset texts = (common_steps, append_assoc, append-nil, nil_from_length, elements_none)

pub ruleset runs = (common_steps, get_or_read, run-apart)

pub ruleset alone_by_implicit = (common_steps, implicit-alone)
