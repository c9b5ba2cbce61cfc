-- What a table has for a key after a gap was made, or an entry was added.
use Rattle.std.proofs.Common.{◌≡◌, ℕ, ◌≤◌, Bool, true, false, cond, List, [], ◌∷◌, ◌++◌, map, flat_map, slice_index, Option, Some, None, unwrap_or, refl, sym, ap, ap₂, subst, ◌∙◌}
use mathlib.Core.List.{map-append}
use Rattle.std.specs.Option.{option_map}
use Rattle.std.proofs.lemmas.Cmp.{eq_by_cmp_equiv}
use Rattle.std.proofs.lemmas.List.Folds.{flat_map-map}
use Rattle.std.specs.List.{AllByRecursion, list_any}
use Rattle.std.specs.Ordering.{eq_by_cmp}
use Rattle.std.specs.Cmp.Lexicographic.{nat_list_cmp_total}
use Rattle.std.specs.FinMap.{find, get, entries, values, get-entries, get-insert}
use Rattle.uca_weights.specs.declared.element.Element.{Element}
use Rattle.uca_model.specs.Table.{ElementTable, AreRanges, key_cmp, elements_at}
use Rattle.uca_model.specs.ImplicitWeights.{implicit_over}
use Rattle.uca_model.specs.Match.{Match}
use Rattle.uca_model.specs.CollationElements.{elements_or_implicit}
use Rattle.uca_model.specs.Table.{with_entry}
use Rattle.uca_model.specs.Gap.{with_gap, table_with_gap, cannot_move}
use Rattle.uca_model.specs.Tailoring.{least}
use Rattle.uca_model.proofs.AnchorElements.{or_false}
use Rattle.uca_model.proofs.GapLookups.{elements_at-with_gap}
use Rattle.uca_model.proofs.WeightLemmas.{each-append}
use Rattle.uca_tailor.proofs.Levels.{IsLevel}
use Rattle.uca_tailor.proofs.LevelOrders.{AllCanMove}
use Rattle.uca_tailor.proofs.ImplicitElements.{implicit-with_gap, implicit_can_move}

-- the elements of matches, by their keys
abbrev pub elements_of_keys : ElementTable → List (List ℕ) → List Element
elements_of_keys t keys = flat_map (elements_or_implicit t) keys

pub elements_of_matches : (t : ElementTable) (ms : List Match) → flat_map (λ m. elements_or_implicit t m.code_points) ms ≡ elements_of_keys t (map (λ m. m.code_points) ms)
elements_of_matches t ms = sym (flat_map-map (elements_or_implicit t) (λ m. m.code_points) ms)

-- the elements of a match in the table with the gap
by_entry : (m w : ℕ) (o : Option (List Element)) (is : List Element) → map (with_gap m w) is ≡ is → unwrap_or (option_map (map (with_gap m w)) o) is ≡ map (with_gap m w) (unwrap_or o is)
by_entry m w None is e = sym e
by_entry m w (Some x) is e = refl

pub elements_or_implicit-with_gap : (m w : ℕ) (t : ElementTable) (q : List ℕ) → AreRanges t.ranges → least m ≤ w → elements_or_implicit (table_with_gap m w t) q ≡ map (with_gap m w) (elements_or_implicit t q)
elements_or_implicit-with_gap m w t q r h =
    ap (λ o. unwrap_or o (implicit_over t.ranges t.ideographs (slice_index q 0))) (elements_at-with_gap m w t q) ∙ by_entry m w (elements_at t q) _ (implicit-with_gap m w t.ranges t.ideographs (slice_index q 0) r h)

-- where no entry is stuck, the elements of each match can move up
pub all_of_none : {A : Type 0} (p : A → Bool) (xs : List A) → list_any p xs ≡ false → AllByRecursion (λ x. p x ≡ false) xs
all_of_none p [] e = tt
all_of_none p (x ∷ xs) e = let b = or_false (p x) (list_any p xs) e in (b.0, all_of_none p xs b.1)

pub found_can_move : (m w : ℕ) (q : List ℕ) (es : List (List ℕ × List Element)) → list_any (list_any (cannot_move m w)) (map (λ e. e.1) es) ≡ false → (is : List Element) → AllCanMove m w is → AllCanMove m w (unwrap_or (find key_cmp q es) is)
found_can_move m w q [] e is h = h
found_can_move m w q (x ∷ es) e is h =
    let b = or_false (list_any (cannot_move m w) x.1) (list_any (list_any (cannot_move m w)) (map (λ y. y.1) es)) e in
    elim (eq_by_cmp key_cmp q x.0) as (λ b. AllCanMove m w (unwrap_or (cond b (Some x.1) (find key_cmp q es)) is)) [
      | true ↦ all_of_none (cannot_move m w) x.1 b.0
      | false ↦ found_can_move m w q es b.1 is h
    ]

pub elements_or_implicit_can_move : (m w : ℕ) (t : ElementTable) (q : List ℕ) → IsLevel m → AreRanges t.ranges → least m ≤ w → list_any (list_any (cannot_move m w)) (values t.entries) ≡ false → AllCanMove m w (elements_or_implicit t q)
elements_or_implicit_can_move m w t q l r h e =
    subst (λ o. AllCanMove m w (unwrap_or o (implicit_over t.ranges t.ideographs (slice_index q 0)))) (sym (get-entries t.entries q)) (found_can_move m w q (entries t.entries) e _ (implicit_can_move m w t.ranges t.ideographs (slice_index q 0) l r h))

-- an entry is found at its key, and changes no other
pub elements_at-same : (t : ElementTable) (k : List ℕ) (es : List Element) (q : List ℕ) → eq_by_cmp key_cmp q k ≡ true → elements_at (with_entry t k es) q ≡ Some es
elements_at-same t k es q same = get-insert nat_list_cmp_total t.entries k es q ∙ ap (λ b. cond b (Some es) (get t.entries q)) same

pub elements_at-here : (t : ElementTable) (k : List ℕ) (es : List Element) → elements_at (with_entry t k es) k ≡ Some es
elements_at-here t k es = elements_at-same t k es k ((eq_by_cmp_equiv nat_list_cmp_total).refl k)

pub elements_at-other : (t : ElementTable) (k : List ℕ) (es : List Element) (q : List ℕ) → eq_by_cmp key_cmp q k ≡ false → elements_at (with_entry t k es) q ≡ elements_at t q
elements_at-other t k es q other = get-insert nat_list_cmp_total t.entries k es q ∙ ap (λ b. cond b (Some es) (get t.entries q)) other

pub elements_or_implicit-with_entry : (t : ElementTable) (k : List ℕ) (es : List Element) (q : List ℕ) → eq_by_cmp key_cmp q k ≡ false → elements_or_implicit (with_entry t k es) q ≡ elements_or_implicit t q
elements_or_implicit-with_entry t k es q other = ap (λ o. unwrap_or o (implicit_over t.ranges t.ideographs (slice_index q 0))) (elements_at-other t k es q other)

-- the elements of many matches
pub elements_of_keys-with_gap : (m w : ℕ) (t : ElementTable) (ks : List (List ℕ)) → AreRanges t.ranges → least m ≤ w → elements_of_keys (table_with_gap m w t) ks ≡ map (with_gap m w) (elements_of_keys t ks)
elements_of_keys-with_gap m w t [] r h = refl
elements_of_keys-with_gap m w t (k ∷ ks) r h =
    ap₂ (λ x y. x ++ y) (elements_or_implicit-with_gap m w t k r h) (elements_of_keys-with_gap m w t ks r h) ∙ sym (map-append (with_gap m w) (elements_or_implicit t k) (elements_of_keys t ks))

pub elements_of_keys_can_move : (m w : ℕ) (t : ElementTable) (ks : List (List ℕ)) → IsLevel m → AreRanges t.ranges → least m ≤ w → list_any (list_any (cannot_move m w)) (values t.entries) ≡ false → AllCanMove m w (elements_of_keys t ks)
elements_of_keys_can_move m w t [] l r h e = tt
elements_of_keys_can_move m w t (k ∷ ks) l r h e = each-append _ (elements_or_implicit t k) _ (elements_or_implicit_can_move m w t k l r h e) (elements_of_keys_can_move m w t ks l r h e)

pub elements_of_keys-with_entry : (t : ElementTable) (k : List ℕ) (es : List Element) (ks : List (List ℕ)) → AllByRecursion (λ q. eq_by_cmp key_cmp q k ≡ false) ks → elements_of_keys (with_entry t k es) ks ≡ elements_of_keys t ks
elements_of_keys-with_entry t k es [] h = refl
elements_of_keys-with_entry t k es (q ∷ ks) h = ap₂ (λ x y. x ++ y) (elements_or_implicit-with_entry t k es q h.0) (elements_of_keys-with_entry t k es ks h.1)
