-- Entries in key order may be inserted one after the other.
use Rattle.std.proofs.Common.{◌≡◌, ℕ, Bool, true, false, cond, ◌&&◌, List, [], ◌∷◌, ◌++◌, refl, ap, ◌∙◌}
use Rattle.std.specs.declared.cmp.Ordering.{Ordering}
use Rattle.std.specs.declared.cmp.Ordering.TheVariants.{Less, Equal, Greater}
use Rattle.std.specs.Cmp.Lexicographic.{nat_list_cmp_total}
use Rattle.std.specs.FinMap.{find, put, is_sorted}
use Rattle.std.specs.FinMap.Entries.{below_all, by_order}
use Rattle.std.specs.List.{AllByRecursion}
use Rattle.std.specs.Ordering.{is_lt, is_eq, ordering_reverse}
use Rattle.std.specs.Prelude.{T, Some, None}
use Rattle.uca_weights.specs.declared.element.Element.{Element}
use Rattle.uca_model.specs.Table.{key_cmp}

first : (a b : Bool) → T (a && b) → T a
first true b h = tt
first false b h = h

second : (a b : Bool) → T (a && b) → T b
second true b h = h
second false b h = absurd h

less : (o : Ordering) → T (is_lt o) → o ≡ Less
less Less h = refl
less Equal h = absurd h
less Greater h = absurd h

below_at : (key : List ℕ) (front : List (List ℕ × List Element)) (x : List ℕ × List Element) (rest : List (List ℕ × List Element)) → T (below_all key_cmp key (front ++ x ∷ rest)) → key_cmp key x.0 ≡ Less
below_at key [] x rest h = less _ (first _ _ h)
below_at key (f ∷ front) x rest h = below_at key front x rest (second _ _ h)

-- the key is above those of some entries
abbrev pub IsAbove : List ℕ → List (List ℕ × List Element) → Type 0
IsAbove key front = AllByRecursion (λ f. key_cmp key f.0 ≡ Greater) front

-- in key order each key is above those before it
pub above_front : (front : List (List ℕ × List Element)) (x : List ℕ × List Element) (rest : List (List ℕ × List Element)) → T (is_sorted key_cmp (front ++ x ∷ rest)) → IsAbove x.0 front
above_front [] x rest h = tt
above_front (f ∷ front) x rest h = (nat_list_cmp_total.antisymm x.0 f.0 ∙ ap ordering_reverse (below_at f.0 front x rest (first _ _ h)), above_front front x rest (second _ _ h))

-- such a key is new
pub find-above : (key : List ℕ) (front : List (List ℕ × List Element)) → IsAbove key front → find key_cmp key front ≡ None
find-above key [] above = refl
find-above key (f ∷ front) above = ap (λ (o : Ordering). cond (is_eq o) (Some f.1) (find key_cmp key front)) above.0 ∙ find-above key front above.1

-- and is put after the others
pub put-above : (key : List ℕ) (es : List Element) (front : List (List ℕ × List Element)) → IsAbove key front → put key_cmp key es front ≡ front ++ (key, es) ∷ []
put-above key es [] above = refl
put-above key es (f ∷ front) above =
    ap (λ (o : Ordering). by_order o ((key, es) ∷ f ∷ front) ((f.0, es) ∷ front) (f ∷ put key_cmp key es front)) above.0 ∙ ap (λ (l : List (List ℕ × List Element)). f ∷ l) (put-above key es front above.1)
