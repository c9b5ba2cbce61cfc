-- The names that most proofs of this crate cite, passed on from one place. Declares nothing.
pub use Rattle.std.proofs.Common.{Err, List, None, Some, [], ap, append_assoc, ap₂, arith, cond, drop, eq-eqb, eqb, eqb-true, false, get_or, get_or-drop, inl, inr, le-ltb, le_refl, length, length-append, length-drop, length-take, length-take-le, ltb-false, ltb-true, nat_lt, ne_eqb, refl, rules, subst, suc, sym, take, take-take, take_all, true, vec_capacity, vec_len, zero, ℕ, ◌&&◌, ◌++◌, ◌+◌, ◌-◌, ◌<◌, ◌∙◌, ◌∷◌, ◌≡◌, ◌≤◌}
pub use Rattle.std.proofs.lemmas.Bool.{and_parts, cases_Bool, cases_eq, cases_lt, cases_order, cond_both, false_from_ne_true, or_from, or_left, or_parts, or_right, true≢false}
pub use Rattle.std.proofs.lemmas.Bool.Decides.{nat_tests}
pub use Rattle.std.proofs.lemmas.Cmp.{ranked}
pub use Rattle.std.proofs.lemmas.Grind.{common_steps}
pub use Rattle.std.proofs.lemmas.List.{drop-append-le, drop-drop, drop_all, drop_at, drop_more, get_or_append_left, get_or_push, length_push, same_from_push, take-append-drop, take-append-le, take_more, take_rest}
pub use Rattle.std.specs.Cmp.{nat_cmp_total, tied_itself}
pub use Rattle.std.specs.Cmp.Lexicographic.{nat_list_cmp_total}
pub use Rattle.std.specs.FinMap.{find}
pub use Rattle.std.specs.List.Sorted.{IsBinarySearchResult, IsNonDecreasingBy}
pub use Rattle.std.specs.Ordering.{nat_cmp, ordering_index, ordering_reverse, ordering_then}
pub use Rattle.std.specs.declared.cmp.Ordering.TheVariants.{Equal, Greater, Less}
pub use Rattle.uca_keys.specs.Fronts.{begins_entry, is_front, last_key}
pub use Rattle.uca_keys.specs.Links.{AreEnds, AreKids, AreLinked, AreValues, LeadsTo, child_of, depth_below, end_of, has_point, kids_back, kids_from, kids_of, span_len}
pub use Rattle.uca_keys.specs.Nodes.{AreFull, AreNext, entries_after, first_depth, last_path, nodes_of, own_of, path_after, paths_after}
pub use Rattle.uca_keys.specs.Paths.{TrieState, entries_of, path_at, paths_of}
pub use Rattle.uca_keys.specs.declared.node.Node.{Node}
pub use Rattle.uca_keys.specs.declared.trie.Child.{Child}
pub use Rattle.uca_model.specs.Table.{key_cmp}
pub use Rattle.uca_weights.specs.declared.element.Element.{Element}
pub use Rattle.uca_weights.specs.declared.limits.TheConstants.{MAX_ELEMENTS, MAX_KEY}
