-- The names that most proofs of this crate cite, passed on from one place. Declares nothing.
pub use Rattle.std.proofs.Common.{All, Bool, Fits, IfSome, List, None, Option, Some, [], ap, append-nil, append_assoc, ap₂, arith, bit_and, chars, cond, count_ones, drop, eq-eqb, eqb-true, false, filter, flat_map, fold, get_or, if◌then◌else◌, inl, inr, length, length-append, map, max, min, nat_le, nat_lt, ne_eqb, not, refl, replicate, rules, set, slice_index, slice_set, subst, suc, sym, take, take-append-drop, true, unwrap_or, w32, w8, zero, ℕ, ◌%◌, ◌&&◌, ◌*◌, ◌++◌, ◌+◌, ◌-◌, ◌/◌, ◌<◌, ◌==◌, ◌^◌, ◌||◌, ◌↔◌, ◌∙◌, ◌∷◌, ◌≡◌, ◌≤◌, ◌⊎◌}
pub use Rattle.std.proofs.Math.Seq.{drop-cons, drop-nil, take-append_seam, take-nil}
pub use Rattle.std.proofs.lemmas.Bool.{and_parts, cases_Bool, cases_lt, cond-false, cond-true, eqb-false, le-leb, le-ltb, leb-true, lt-leb, lt-ltb, ltb-true, or_left, or_parts, or_right}
pub use Rattle.std.proofs.lemmas.Bool.Decides.{nat_tests}
pub use Rattle.std.proofs.lemmas.Grind.{common_steps, flat_map-append, get_or-set_at}
pub use Rattle.std.proofs.lemmas.List.{drop-drop, drop-set-lt, drop_all, drop_more, get_or-drop, get_or-map, get_or-take, length-drop, length-map, length-set, length-take, length-take-le, map-append, nil_from_length, take-append-le, take_all, take_more, take_more_set}
pub use Rattle.std.proofs.lemmas.List.Sums.{sum_by-cons}
pub use Rattle.std.proofs.lemmas.Nat.{and_mask, mod-pow-add, mod_below, one_shl, ones-le, ones_cat, pow-add, pow_pos}
pub use Rattle.std.proofs.lemmas.Result.{err_from_is_err_and}
pub use Rattle.std.proofs.lemmas.Simd.{bit_mask_l, bitmask_splat, chunk-drop, length-chunk, mask_l-lt, zip2_splat}
pub use Rattle.std.proofs.lemmas.Str.{chars-nil, encodes-chars}
pub use Rattle.std.specs.Char.{IsScalar}
pub use Rattle.std.specs.List.{AllByRecursion, concat, list_all, list_any, range_with_len, sum_by}
pub use Rattle.std.specs.Ordering.{nat_cmp, ordering_then}
pub use Rattle.std.specs.Simd.Lanes.{chunk, mask_l}
pub use Rattle.std.specs.declared.cmp.Ordering.{Ordering}
pub use Rattle.std.specs.declared.cmp.Ordering.TheVariants.{Equal, Greater, Less}
pub use Rattle.uca_key.specs.PackedKey.{above_bytes, below_bytes, common_weight, later_levels, other_bytes, packed_key, packed_key_by, packed_later, packed_level, packed_levels, packed_prefix, runs_after}
pub use Rattle.uca_key.specs.PackedLaws.{EquivalentTextsHaveOnePackedKey, PackedKeysBeginWithCompleteTexts, PackedKeysBeginWithPrimaryWeights, PackedKeysFollowKeys, PackedKeysGrowByLevels, PackedKeysOfBeginnings, PackedKeysOutliveTables, PackedKeysTellTextsApart}
pub use Rattle.uca_key.specs.Pieces.{HoldsWeights, weights_left, weights_of}
pub use Rattle.uca_key.specs.Placing.{IsPutting, PutsAt, StaysAfter, StaysBeyond, with_bytes_at}
pub use Rattle.uca_key.specs.PrimaryCode.{CodeState, PrimaryCode, after_lead, after_slot, anchor_of, begins_slot, code_of, code_points, first_primary, has_page, is_common, is_single, lead, letter_bytes, page_of, past, points_of_ranges, primary_bytes, primary_front, primary_level, primary_of, second_bytes, slot, start, state_after}
pub use Rattle.uca_key.specs.Reach.{first_left, state_of}
pub use Rattle.uca_key.specs.Runs.{AreMarked, bytes_left, is_blank, is_other}
pub use Rattle.uca_key.specs.Weighing.{all_own, own_weights}
pub use Rattle.uca_key.specs.WeightCodes.{AreCodes, AreFlags, AreShort, IsAlone, IsCodeOf, IsMadeOf, IsNext, IsWindow, greatest, is_named, is_range}
pub use Rattle.uca_levels.proofs.ReadsLemmas.{given_none, given_some}
pub use Rattle.uca_model.proofs.LevelLemmas.{OrdersLevel-points, OrdersLevel-weights, levels-within, sort_key-levels, weight_first}
pub use Rattle.uca_model.proofs.OrderLemmas.{then_assoc, then_equal}
pub use Rattle.uca_model.proofs.WeightLemmas.{HasWeights, HasWeights-IsTable, each-append, each-take}
pub use Rattle.uca_model.specs.CollationElements.{elements, elements_or_implicit, matches_within, step}
pub use Rattle.uca_model.specs.DecidingLevel.{OrdersLevel, bytes_at, key_from, list_order}
pub use Rattle.uca_model.specs.Laws.{AreBytes, AreWeights, BeginsWith}
pub use Rattle.uca_model.specs.LevelWeights.{level_list, level_weights}
pub use Rattle.uca_model.specs.Prefix.{IsBetween, end_of_prefix, is_complete, primary_key}
pub use Rattle.uca_model.specs.SortKey.{code_point_bytes, joined, key_order, level_bytes, sort_key, weight_bytes}
pub use Rattle.uca_model.specs.Table.{ElementTable, IsTable, elements_at, is_key}
pub use Rattle.uca_weights.specs.Settings.{levels}
pub use Rattle.uca_weights.specs.VariableWeighting.{weighted, weighted_after, weights}
pub use Rattle.uca_weights.specs.Weigher.{WeigherState, after_element, weighted_from}
pub use Rattle.uca_weights.specs.declared.element.Element.{Element}
pub use Rattle.uca_weights.specs.declared.settings.Settings.{Settings}
pub use Rattle.uca_weights.specs.declared.settings.Strength.TheVariants.{Identical, Primary, Quaternary, Secondary, Tertiary}
pub use Rattle.uca_weights.specs.declared.settings.Variable.{Variable}
pub use Rattle.uca_weights.specs.declared.settings.Variable.TheVariants.{NonIgnorable}
pub use Rattle.unicode_normalization.specs.Forms.{Nfd, nfd}
