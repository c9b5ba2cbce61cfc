-- The canonical text of a table is read back to it, without its further ideographs.
use Rattle.std.proofs.Common.{◌≡◌, ℕ, ◌+◌, ◌<◌, false, List, [], ◌∷◌, ◌++◌, length, map, refl, sym, ap, subst, ◌∙◌, arith, append_assoc, append-nil, length-append}
use Rattle.std.proofs.lemmas.Bool.{cond-false}
use Rattle.std.proofs.lemmas.List.Elements.{recursion_from_All}
use Rattle.std.specs.Cmp.Lexicographic.{nat_list_cmp_total}
use Rattle.std.specs.FinMap.{FinMap, empty, entries, entries_sorted, entries-insert, get-entries, insert, is_sorted, same_entries_map}
use Rattle.std.specs.List.{AllByRecursion}
use Rattle.std.specs.Option.{is_some}
use Rattle.std.specs.Prelude.{T, Ok, Option, Result}
use Rattle.uca_io.specs.LineFold.{FaultAt, map_ok, with_bytes, with_lines}
use Rattle.uca_io.proofs.FoldLemmas.{lines-added, text-within}
use Rattle.uca_weights.specs.declared.element.Element.{Element}
use Rattle.uca_weights.specs.declared.range.Range.{Range}
use Rattle.uca_model.specs.Table.{ElementTable, key_cmp, is_key, with_ideographs, IsEntry, IsRange, IsTable, AreRanges}
use Rattle.uca_model.specs.Ranges.{AreByFirst}
use Rattle.uca_model.specs.TableText.{Cause, TextState, ends, no_lines, add_statement, add_line, table_fold, table_part}
use Rattle.uca_model.specs.CanonicalText.{canonical}
use Rattle.uca_model.specs.Laws.{CanonicalTextIsReadBack, CanonicalTextsTellTablesApart}
use Rattle.uca_model.proofs.CanonicalLemmas.{no_entries}
use Rattle.uca_model.proofs.CanonicalLines.{entry_said, range_said, length-entry, length-range, lines_of_canonical}
use Rattle.uca_model.proofs.CanonicalEntries.{statement-entry}
use Rattle.uca_model.proofs.CanonicalRanges.{statement-range}
use Rattle.uca_model.proofs.AddedRanges.{after_front, good_range, put_range-last}
use Rattle.uca_model.proofs.SortedLemmas.{IsAbove, above_front, find-above, put-above}
use Rattle.uca_model.proofs.TextSteps.{step_done}

-- what some lines have said, with no version among them
abbrev so_far : FinMap key_cmp (List Element) → List Range → TextState
so_far m rs = record { table = record { entries = m; ranges = rs; ideographs = [] }; has_version = false }

range_added : (m : FinMap key_cmp (List Element)) (front : List Range) (r : Range) (rest : List Range) → AreRanges (front ++ r ∷ rest) → AreByFirst (front ++ r ∷ rest) → add_line (so_far m front) (range_said r) ≡ Ok (so_far m (front ++ r ∷ []))
range_added m front r rest are by_first =
    step_done _ _ (add_statement (so_far m front)) (statement-range r (after_front IsRange front r rest are.each))
    ∙ cond-false _ _ _ (good_range front r rest are) ∙ ap (λ (rs : List Range). Ok (so_far m rs)) (put_range-last front r rest by_first)

entry_added : (m : FinMap key_cmp (List Element)) (rs : List Range) (key : List ℕ) (es : List Element) → IsEntry (key, es) → IsAbove key (entries m) → add_line (so_far m rs) (entry_said (key, es)) ≡ Ok (so_far (insert m key es) rs)
entry_added m rs key es is above =
    let new : is_key (record { entries = m; ranges = rs; ideographs = [] }) key ≡ false = ap (λ (o : Option (List Element)). is_some o) (get-entries m key ∙ find-above key (entries m) above) in
    step_done _ _ (add_statement (so_far m rs)) (statement-entry key es is) ∙ cond-false _ _ _ new

module _ (t : ElementTable) (table : IsTable t) where
  entries_added : (n : ℕ) (m : FinMap key_cmp (List Element)) (es : List (List ℕ × List Element)) → entries m ++ es ≡ entries t.entries → AllByRecursion IsEntry es
      → with_lines table_fold ends n (so_far m t.ranges) (map entry_said es ++ [] ∷ []) ≡ Ok (so_far t.entries t.ranges)
  entries_added n m [] is all = ap (λ (k : FinMap key_cmp (List Element)). Ok (so_far k t.ranges)) (same_entries_map m t.entries (sym (append-nil (entries m)) ∙ is))
  entries_added n m (e ∷ es) is all =
      let above : IsAbove e.0 (entries m) = above_front (entries m) e es (subst (λ (l : List (List ℕ × List Element)). T (is_sorted key_cmp l)) (sym is) (entries_sorted t.entries)) in
      let more : entries (insert m e.0 e.1) ≡ entries m ++ e ∷ [] = entries-insert nat_list_cmp_total m e.0 e.1 ∙ put-above e.0 e.1 (entries m) above in
      let rest : entries (insert m e.0 e.1) ++ es ≡ entries t.entries = ap (λ (l : List (List ℕ × List Element)). l ++ es) more ∙ append_assoc (entries m) (e ∷ []) es ∙ is in
      lines-added table_fold ends n (so_far m t.ranges) (so_far (insert m e.0 e.1) t.ranges) (entry_said e) (map entry_said es ++ [] ∷ []) (omega (arith, length-append (map entry_said es) ([] ∷ []))) (length-entry e all.0) (entry_added m t.ranges e.0 e.1 all.0 above)
      ∙ entries_added (n + 1) (insert m e.0 e.1) es rest all.1

  ranges_added : (n : ℕ) (front rs : List Range) → front ++ rs ≡ t.ranges → AreByFirst t.ranges
      → with_lines table_fold ends n (so_far empty front) (map range_said rs ++ (map entry_said (entries t.entries) ++ [] ∷ [])) ≡ Ok (so_far t.entries t.ranges)
  ranges_added n front [] is by_first =
      ap (λ (l : List Range). with_lines table_fold ends n (so_far empty l) (map entry_said (entries t.entries) ++ [] ∷ [])) (sym (append-nil front) ∙ is)
      ∙ entries_added n empty (entries t.entries) (ap (λ (l : List (List ℕ × List Element)). l ++ entries t.entries) (sym no_entries)) (recursion_from_All IsEntry (entries t.entries) table.entries)
  ranges_added n front (r ∷ rs) is by_first =
      let parts : List (List ℕ) = map range_said rs ++ (map entry_said (entries t.entries) ++ [] ∷ []) in
      let some : 0 < length parts = omega (arith, length-append (map range_said rs) (map entry_said (entries t.entries) ++ [] ∷ []), length-append (map entry_said (entries t.entries)) ([] ∷ [])) in
      lines-added table_fold ends n (so_far empty front) (so_far empty (front ++ r ∷ [])) (range_said r) parts some (length-range r) (range_added empty front r rs (subst AreRanges (sym is) table.ranges) (subst AreByFirst (sym is) by_first))
      ∙ ranges_added (n + 1) (front ++ r ∷ []) rs (append_assoc front (r ∷ []) rs ∙ is) by_first

  lines_added : AreByFirst t.ranges → with_bytes table_fold ends 1 no_lines (canonical t) ≡ Ok (so_far t.entries t.ranges)
  unfolding with_bytes
  lines_added by_first = ap (with_lines table_fold ends 1 no_lines) (lines_of_canonical t) ∙ ranges_added 1 [] t.ranges refl by_first

pub canonical-read_back : CanonicalTextIsReadBack
canonical-read_back t table by_first few = ap (map_ok table_part) (text-within table_fold ends no_lines (canonical t) few ∙ lines_added t table by_first)

-- what all lines of a canonical text say is said by no other table's
pub canonical-apart : CanonicalTextsTellTablesApart
canonical-apart t u of_t of_u by_t by_u same =
    let said : Result ElementTable (FaultAt Cause) = Ok (with_ideographs t []) in
    let other : Result ElementTable (FaultAt Cause) = Ok (with_ideographs u []) in
    let one : said ≡ other = ap (map_ok table_part) (sym (lines_added t of_t by_t) ∙ ap (with_bytes table_fold ends 1 no_lines) same ∙ lines_added u of_u by_u) in
    cc
