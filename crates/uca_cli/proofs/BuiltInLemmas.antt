-- The built-in table, entry after entry.
use Rattle.std.proofs.Common.{◌≡◌, ℕ, List, [], ◌∷◌, Result, Ok, Err, IfOk, IsErrAnd, MatchResult, fold, length, refl, sym, ap, ap₂, ◌∙◌, arith}
use Rattle.std.specs.FinMap.{FinMap, empty, put, entries, entries-from_sorted, entries-insert, same_entries_map, len-entries, len-empty}
use Rattle.std.specs.Cmp.Lexicographic.{nat_list_cmp_total}
use Rattle.uca_weights.specs.declared.element.Element.{Element}
use Rattle.uca_weights.specs.declared.range.Range.{Range}
use Rattle.uca_model.specs.Table.{ElementTable, key_cmp, with_entry, with_ideographs}
use Rattle.uca_cli.specs.BuiltIn.{plain, with_point, with_contractions, with_ranges, built_in_entries, built_in_table, tangut, tangut_supplement}
use Rattle.uca_cli.specs.declared.built_in_table.TheConstants.{ENTRIES}

-- the table of all of them
abbrev pub whole_table : ElementTable
whole_table = with_ranges (with_contractions (fold with_point (record { entries = empty; ranges = []; ideographs = [] }) ENTRIES))

-- the entries of a table, with one more put into its place
abbrev put_key : List (List ℕ × List Element) → List ℕ → List Element → List (List ℕ × List Element)
put_key es key elements = put key_cmp key elements es

abbrev put_point : List (List ℕ × List Element) → ℕ × Element → List (List ℕ × List Element)
put_point es p = put_key es (p.0 ∷ []) (p.1 ∷ [])

abbrev put_contractions : List (List ℕ × List Element) → List (List ℕ × List Element)
put_contractions es =
    put_key (put_key (put_key (put_key es
    (0x0063 ∷ 0x0068 ∷ []) (plain 0x1007 0x0020 0x0002 ∷ []))
    (0x0061 ∷ 0x0301 ∷ []) (plain 0x1008 0x0020 0x0002 ∷ []))
    (0x0062 ∷ 0x0301 ∷ []) (plain 0x1009 0x0020 0x0002 ∷ []))
    (0x0062 ∷ 0x0301 ∷ 0x0308 ∷ []) (plain 0x100A 0x0020 0x0002 ∷ [])

entries-put : (t : ElementTable) (key : List ℕ) (elements : List Element) (es : List (List ℕ × List Element)) → entries t.entries ≡ es → entries (with_entry t key elements).entries ≡ put_key es key elements
entries-put t key elements es is = entries-insert nat_list_cmp_total t.entries key elements ∙ ap (λ xs. put_key xs key elements) is

entries-points : (ps : List (ℕ × Element)) (t : ElementTable) (es : List (List ℕ × List Element)) → entries t.entries ≡ es → entries (fold with_point t ps).entries ≡ fold put_point es ps
entries-points [] t es is = is
entries-points (p ∷ ps) t es is = entries-points ps (with_point t p) (put_point es p) (entries-put t (p.0 ∷ []) (p.1 ∷ []) es is)

entries-contractions : (t : ElementTable) (es : List (List ℕ × List Element)) → entries t.entries ≡ es → entries (with_contractions t).entries ≡ put_contractions es
entries-contractions t es is =
    let ch : List ℕ = 0x0063 ∷ 0x0068 ∷ [] in let a : List ℕ = 0x0061 ∷ 0x0301 ∷ [] in let b : List ℕ = 0x0062 ∷ 0x0301 ∷ [] in let long : List ℕ = 0x0062 ∷ 0x0301 ∷ 0x0308 ∷ [] in
    let weight : ℕ → List Element = λ l1. plain l1 0x0020 0x0002 ∷ [] in
    let t1 : ElementTable = with_entry t ch (weight 0x1007) in let t2 : ElementTable = with_entry t1 a (weight 0x1008) in let t3 : ElementTable = with_entry t2 b (weight 0x1009) in
    let e1 : List (List ℕ × List Element) = put_key es ch (weight 0x1007) in let e2 : List (List ℕ × List Element) = put_key e1 a (weight 0x1008) in let e3 : List (List ℕ × List Element) = put_key e2 b (weight 0x1009) in
    entries-put t3 long (weight 0x100A) e3 (entries-put t2 b (weight 0x1009) e2 (entries-put t1 a (weight 0x1008) e1 (entries-put t ch (weight 0x1007) es is)))

ranges-points : (ps : List (ℕ × Element)) (t : ElementTable) → (fold with_point t ps).ranges ≡ t.ranges
ranges-points [] t = refl
ranges-points (p ∷ ps) t = ranges-points ps (with_point t p)

ideographs-points : (ps : List (ℕ × Element)) (t : ElementTable) → (fold with_point t ps).ideographs ≡ t.ideographs
ideographs-points [] t = refl
ideographs-points (p ∷ ps) t = ideographs-points ps (with_point t p)

nothing : {A : Type 0} (xs : List A) → length xs ≡ 0 → xs ≡ []
nothing [] e = refl
nothing (x ∷ xs) e = absurd (omega arith)

entries-empty : entries (empty {X = List Element} {R = key_cmp}) ≡ []
entries-empty = nothing _ (sym (len-entries (empty {X = List Element} {R = key_cmp})) ∙ len-empty key_cmp (List Element))

-- the ranges of a table without any
ranges-all : (t : ElementTable) → t.ranges ≡ [] → (with_ranges t).ranges ≡ tangut ∷ tangut_supplement ∷ []
ranges-all t none = rw none refl

-- all of them make the table
pub whole_table-all : whole_table ≡ built_in_table
whole_table-all =
    let start : ElementTable = record { entries = empty; ranges = []; ideographs = [] } in
    let made : entries whole_table.entries ≡ built_in_entries = entries-contractions (fold with_point start ENTRIES) (fold put_point [] ENTRIES) (entries-points ENTRIES start [] entries-empty) in
    let same : whole_table.entries ≡ built_in_table.entries = same_entries_map _ _ (made ∙ sym (entries-from_sorted key_cmp built_in_entries tt)) in
    let f : FinMap key_cmp (List Element) → List Range → ElementTable = λ m rs. record { entries = m; ranges = rs; ideographs = whole_table.ideographs } in
    ap₂ f same (ranges-all (with_contractions (fold with_point start ENTRIES)) (ranges-points ENTRIES start)) ∙ ap (with_ideographs built_in_table) (ideographs-points ENTRIES start)

-- the table that was made, where memory sufficed
pub table_made : {D E : Type 0} (made : Result ElementTable D) (result : Result ElementTable E) (P : D → Type 0) (Q : D → E → Type 0) (t : ElementTable)
    → MatchResult made (λ u. u ≡ t) P → MatchResult made (λ u. result ≡ Ok u) (λ f. IsErrAnd result (Q f)) → t ≡ built_in_table → IfOk result (λ u. u ≡ built_in_table)
table_made (Ok u) result P Q t is same all = rw same (is ∙ all)
table_made (Err f) (Ok u) P Q t is same all = absurd same
table_made (Err f) (Err e) P Q t is same all = tt
