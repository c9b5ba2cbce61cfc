-- What a valid table says about a look-up.
use Rattle.std.proofs.Common.{◌≡◌, ℕ, true, cond, List, [], ◌∷◌, Some, refl, sym, ap, subst, ◌∙◌, inl, inr}
use Rattle.std.proofs.lemmas.Bool.{cases_Bool}
use Rattle.std.proofs.lemmas.List.Elements.{recursion_from_All}
use Rattle.std.specs.declared.cmp.Ordering.{Ordering}
use Rattle.std.specs.declared.cmp.Ordering.TheVariants.{Less, Equal, Greater}
use Rattle.std.specs.Ordering.{eq_by_cmp, is_eq}
use Rattle.std.specs.List.{AllByRecursion}
use Rattle.std.specs.FinMap.{find, entries, get-entries, nat_cmp-IsAntisymmetric, slice_cmp-IsAntisymmetric}
use Rattle.uca_weights.specs.declared.element.Element.{Element}
use Rattle.uca_model.specs.Table.{ElementTable, key_cmp, elements_at, IsEntry, IsTable}

-- a test of equality that holds
equal : (o : Ordering) → is_eq o ≡ true → o ≡ Equal
equal Less h = cc
equal Equal h = refl
equal Greater h = cc

-- keys that tie are equal
pub tied_keys : (a b : List ℕ) → eq_by_cmp key_cmp a b ≡ true → a ≡ b
tied_keys a b h = slice_cmp-IsAntisymmetric nat_cmp-IsAntisymmetric a b (equal (key_cmp a b) h)

-- what holds of each entry holds of the one that is found
pub find-holds : (P : List ℕ × List Element → Type 0) (key : List ℕ) (es : List Element) (all : List (List ℕ × List Element)) → AllByRecursion P all → find key_cmp key all ≡ Some es → P (key, es)
find-holds P key es [] holds e = cc
find-holds P key es (x ∷ all) holds e = elim (cases_Bool (eq_by_cmp key_cmp key x.0)) [
  | inl here ↦
      let found : Some x.1 ≡ Some es = sym (ap (λ b. cond b (Some x.1) (find key_cmp key all)) here) ∙ e in
      let value : x.1 ≡ es = cc in
      subst (λ k. P (k, es)) (sym (tied_keys key x.0 here)) (subst (λ v. P (x.0, v)) value holds.0)
  | inr other ↦ find-holds P key es all holds.1 (sym (ap (λ b. cond b (Some x.1) (find key_cmp key all)) other) ∙ e)
]

-- the elements of a key are those of an entry
pub IsEntry-elements_at : (t : ElementTable) (key : List ℕ) (es : List Element) → IsTable t → elements_at t key ≡ Some es → IsEntry (key, es)
IsEntry-elements_at t key es table e = find-holds IsEntry key es (entries t.entries) (recursion_from_All IsEntry (entries t.entries) table.entries) (sym (get-entries t.entries key) ∙ e)
