-- Look-ups in a table after a gap was made.
use Rattle.std.proofs.Common.{◌≡◌, ℕ, true, false, cond, List, [], ◌∷◌, map, Some, refl, sym, ap, ◌∙◌}
use Rattle.std.specs.Option.{option_map}
use Rattle.std.specs.Ordering.{eq_by_cmp}
use Rattle.std.specs.Cmp.Lexicographic.{nat_list_cmp_total}
use Rattle.std.specs.FinMap.{find, entries, get-entries, get-from_entries}
use Rattle.uca_weights.specs.declared.element.Element.{Element}
use Rattle.uca_model.specs.Table.{ElementTable, key_cmp, elements_at}
use Rattle.uca_model.specs.Gap.{with_gap, entry_with_gap, table_with_gap}

find-with_gap : (m w : ℕ) (q : List ℕ) (es : List (List ℕ × List Element)) → find key_cmp q (map (entry_with_gap m w) es) ≡ option_map (map (with_gap m w)) (find key_cmp q es)
find-with_gap m w q [] = refl
find-with_gap m w q (e ∷ es) = elim (eq_by_cmp key_cmp q e.0) as (λ b. cond b (Some (map (with_gap m w) e.1)) (find key_cmp q (map (entry_with_gap m w) es)) ≡ option_map (map (with_gap m w)) (cond b (Some e.1) (find key_cmp q es))) [
  | true ↦ refl
  | false ↦ find-with_gap m w q es
]

pub elements_at-with_gap : (m w : ℕ) (t : ElementTable) (q : List ℕ) → elements_at (table_with_gap m w t) q ≡ option_map (map (with_gap m w)) (elements_at t q)
elements_at-with_gap m w t q =
    get-from_entries nat_list_cmp_total (map (entry_with_gap m w) (entries t.entries)) q ∙ find-with_gap m w q (entries t.entries) ∙ ap (option_map (map (with_gap m w))) (sym (get-entries t.entries q))
