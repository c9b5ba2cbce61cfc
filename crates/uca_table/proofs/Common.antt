-- The names that most proofs of this crate cite, passed on from one place. Declares nothing.
pub use Rattle.std.proofs.Common.{Bool, Bor, Err, IfSome, List, None, Ok, OnErr, OnOk, Option, Result, Some, T, [], ap, append-nil, append_assoc, ap₂, arith, chars, cond, drop, eq-eqb, eqb-true, false, filter, flat_map, fold, get_or, if◌then◌else◌, inl, inr, is_some, le_refl, length, length-append, length-drop, length-take-le, lit≤, map, max, min, nat_le, nat_lt, not, option_copied, refl, rules, set, slice_index_or, subst, suc, sym, take, take-take, take_all, true, unwrap_or, vec_capacity, vec_len, zero, ℕ, ◌%◌, ◌&&◌, ◌*◌, ◌++◌, ◌+◌, ◌-◌, ◌/◌, ◌<◌, ◌==◌, ◌^◌, ◌||◌, ◌∙◌, ◌∷◌, ◌≡◌, ◌≢◌, ◌≤◌}
pub use Rattle.std.proofs.Math.Bool.{and-false, and-true, and_assoc, and_comm, or-false, or-true, or_assoc}
pub use Rattle.std.proofs.lemmas.Bool.{cases_Bool, cases_eq, cases_lt, false≢true, le-leb, le-ltb, lt-leb, lt-ltb, ltb-false, ltb-true, ne_eqb, not-true, or_parts, or_right}
pub use Rattle.std.proofs.lemmas.Bool.Decides.{nat_tests}
pub use Rattle.std.proofs.lemmas.Grind.{common_steps}
pub use Rattle.std.proofs.lemmas.List.{drop-append-le, drop-drop, drop_all, drop_at, drop_more, get_or-drop, get_or-set_other, get_or-set_same, get_or_past, get_or_read, length-set, length_push, map-append, nil_from_length, take-append-drop, take-append-le, take_at, take_more, take_rest}
pub use Rattle.std.proofs.lemmas.List.Elements.{All-from_recursion, recursion_from_All}
pub use Rattle.std.proofs.lemmas.List.Folds.{find_at, fold-map}
pub use Rattle.std.proofs.lemmas.Option.{IfSome_then}
pub use Rattle.std.proofs.lemmas.Result.{on_ok_weaker}
pub use Rattle.std.specs.BTreeMap.{get, insert_entry, is_at}
pub use Rattle.std.specs.Char.{IsScalar}
pub use Rattle.std.specs.Cmp.{nat_cmp_is, tied_itself, unsigned_ties}
pub use Rattle.std.specs.Cmp.Lexicographic.{lists_ties, nat_list_cmp_total, slice_cmp}
pub use Rattle.std.specs.FinMap.{FinMap, empty, empty_of_len, entries, entries-from_sorted, entries-insert, entries_sorted, find, from_sorted, get-entries, get-from_sorted, insert, is_sorted, len-entries, nat_cmp-IsAntisymmetric, put, same_entries_map, slice_cmp-IsAntisymmetric}
pub use Rattle.std.specs.FinMap.Entries.{below_all, by_order, find-put, is_sorted-put, same_entries}
pub use Rattle.std.specs.List.{All, AllByRecursion, list_all, list_any, position_or_len, slice_get}
pub use Rattle.std.specs.Map.{lookup, remove_entry, values_of}
pub use Rattle.std.specs.Ordering.{eq_by_cmp, is_eq, is_lt, nat_cmp, ordering_reverse, ordering_then}
pub use Rattle.std.specs.declared.cmp.Ordering.{Ordering}
pub use Rattle.std.specs.declared.cmp.Ordering.TheVariants.{Equal, Greater, Less}
pub use Rattle.uca_keys.specs.Fronts.{begins_entry, is_front, last_key}
pub use Rattle.uca_model.proofs.SafeCutLemmas.{greatest-holds, greatest-within, is_cut-parts}
pub use Rattle.uca_model.proofs.StandAloneLemmas.{IsApart, apart-alone, apart-before, apart-end, elements-one, elements-unknown, elements_none, joining-most, nfd-decomposition, nfd-single}
pub use Rattle.uca_model.specs.CollationElements.{elements, elements_or_implicit, step}
pub use Rattle.uca_model.specs.ImplicitWeights.{implicit, lowest_first, range_of}
pub use Rattle.uca_model.specs.Match.{discontiguous_match, greatest, is_blocked, longest_match, longest_match_len, took}
pub use Rattle.uca_model.specs.Prefix.{have_primaries_of, keeps_primary}
pub use Rattle.uca_model.specs.Ranges.{AreByFirst, highest_last, is_bad_range, put_range, shares, spans_too_far}
pub use Rattle.uca_model.specs.StandAlone.{bearing, bearing_of, begins, continues, is_before_last, is_first, is_longer_from, joining, leads}
pub use Rattle.uca_model.specs.Table.{AllDisjoint, AreDisjoint, AreRanges, ElementTable, IsElement, IsEntry, IsRange, IsTable, elements_at, is_key, key_cmp, longest, with_ideographs}
pub use Rattle.uca_model.specs.UnifiedIdeographs.{AreApart, AreIdeographs, IsIdeographs}
pub use Rattle.uca_model.specs.WellFormed.{all_elements, broken, is_broken, is_low_secondary, is_low_tertiary, lacks_its_front, lies_between}
pub use Rattle.uca_table.specs.Ascending.{AreAscending, append_fault, has_greater, AreStored, longest_of, table_of}
pub use Rattle.uca_table.specs.Blocks.{IsBlocks, place}
pub use Rattle.uca_table.specs.Bounds.{bounded, condition_of, is_against, unbounded}
pub use Rattle.uca_table.specs.Cells.{AreCells, Grows, HoldsCells, IsCell, unknown}
pub use Rattle.uca_table.specs.EntryMap.{AreAhead, AreEntries, IsLong, IsPlaced, MayFollow, entries_in, entry_in, first_of, keyed, merged, places_in, point_at, points_from, IsSingleMap, NoPlace, is_used, place_at, points_of, taken}
pub use Rattle.uca_table.specs.Extents.{AreByLast, AreExtents, begins_by, extent_of, extent_with}
pub use Rattle.uca_table.specs.Lead.{HoldsLeads, IsLeadWeight}
pub use Rattle.uca_table.specs.Marks.{AreMarks, HoldsMarks, Untouched, all_said, first_marks, join, keeps_longer, later, later_marks, marks, marks_of, said}
pub use Rattle.uca_table.specs.Running.{IsExtending, brought_forward, highest_class, passed_over}
pub use Rattle.uca_table.specs.Walk.{path_of, table_of_walk}
pub use Rattle.uca_table.specs.declared.blocks.Blocks.{Blocks}
pub use Rattle.uca_table.specs.declared.marks.Marks.{Marks}
pub use Rattle.uca_table.specs.declared.single_map.Place.{Place}
pub use Rattle.uca_weights.specs.declared.element.Element.{Element}
pub use Rattle.uca_weights.specs.declared.limits.TheConstants.{MAX_ELEMENTS, MAX_KEY}
pub use Rattle.uca_weights.specs.declared.range.Ideographs.{Ideographs}
pub use Rattle.uca_weights.specs.declared.range.Range.{Range}
pub use Rattle.unicode_normalization.specs.Forms.{nfd}
