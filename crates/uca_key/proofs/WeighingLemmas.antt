-- Elements that were weighed where they lie: their weights, and those of two lists, one after the other.
use Rattle.uca_key.proofs.Common.{◌≡◌, ℕ, ◌+◌, ◌*◌, ◌<◌, ◌≤◌, ◌==◌, not, List, [], ◌∷◌, ◌++◌, map, filter, flat_map, length, drop, get_or, slice_index, refl, ap, ◌∙◌, arith, append_assoc, flat_map-append, drop-cons, length-map, map-append, Element, Variable, NonIgnorable, weighted, WeigherState, after_element, weighted_from, level_weights, level_bytes, weight_bytes, all_own, own_weights, common_steps}
use Rattle.std.proofs.lemmas.List.Elements.{filter-append}
use Rattle.uca_levels.specs.Primaries.{primary_of}
use Rattle.uca_levels.proofs.PrimarySteps.{primaries-are, primaries-both}
use Rattle.uca_key.proofs.KeySize.{passed_few}
use Rattle.uca_key.proofs.PlacingLemmas.{IsPutting-more, IsPutting-start, beyond-more, stays-beyond}

-- all weights are kept where no element is variable
unchanged-from : (w : WeigherState) (es : List Element) → w.weighting ≡ NonIgnorable → weighted_from w es ≡ all_own NonIgnorable es
unchanged-from w [] same = refl
unchanged-from w (e ∷ es) same = grind (arith, common_steps, unchanged-from (record w { after = after_element w.after e }) es same)

pub unchanged-both : (w : WeigherState) (xs ys : List Element) → w.weighting ≡ NonIgnorable → weighted_from w (xs ++ ys) ≡ all_own NonIgnorable xs ++ weighted_from w ys
unchanged-both w xs ys same = grind (arith, common_steps, unchanged-from, map-append)

-- ---- the weights and the bytes of a level

pub level_weights-append : (level : ℕ) (xs ys : List (List ℕ)) → level_weights level (xs ++ ys) ≡ level_weights level xs ++ level_weights level ys
level_weights-append level xs ys = grind (arith, common_steps, slice_index, map-append, filter-append)

level_bytes-append : (level : ℕ) (xs ys : List (List ℕ)) → level_bytes (xs ++ ys) level ≡ level_bytes xs level ++ level_bytes ys level
level_bytes-append level xs ys = ap (flat_map weight_bytes) (level_weights-append level xs ys) ∙ flat_map-append weight_bytes (level_weights level xs) (level_weights level ys)

-- those of two lists of elements
pub own_weights-both : (v : Variable) (level : ℕ) (xs ys : List Element) → level_weights level (all_own v (xs ++ ys)) ≡ level_weights level (all_own v xs) ++ level_weights level (all_own v ys)
own_weights-both v level xs ys = ap (level_weights level) (map-append (own_weights v) xs ys) ∙ level_weights-append level (all_own v xs) (all_own v ys)

pub own_bytes-both : (v : Variable) (level : ℕ) (xs ys : List Element) → level_bytes (all_own v (xs ++ ys)) level ≡ level_bytes (all_own v xs) level ++ level_bytes (all_own v ys) level
own_bytes-both v level xs ys = ap (λ ws. level_bytes ws level) (map-append (own_weights v) xs ys) ∙ level_bytes-append level (all_own v xs) (all_own v ys)

-- at the first level elements say the same whether they were weighed or not
first-own : (v : Variable) (es : List Element) → map (primary_of v) es ≡ map (λ ws. slice_index ws 0) (all_own v es)
first-own v [] = refl
first-own v (e ∷ es) = ap (λ l. primary_of v e ∷ l) (first-own v es)

pub first_weights-own : (v : Variable) (es : List Element) → level_weights 1 (weighted v es) ≡ level_weights 1 (all_own v es)
first_weights-own v es = primaries-are v es ∙ ap (filter (λ w. not (w == 0))) (first-own v es)

-- the primary weights from one element on
pub primary-one : (v : Variable) (i w : ℕ) (es : List Element) (d : Element) (ws : List ℕ) → i < length es → w ≡ primary_of v (get_or es i d)
    → level_weights 1 (weighted v (drop i es)) ++ ws ≡ filter (λ x. not (x == 0)) (w ∷ []) ++ (level_weights 1 (weighted v (drop (i + 1) es)) ++ ws)
primary-one v i w es d ws within is = grind (arith, common_steps, drop-cons, primaries-are, primaries-both, append_assoc)

-- ---- how many bytes they have

length-bytes : (ws : List ℕ) → length (flat_map weight_bytes ws) ≡ 2 * length ws
length-bytes [] = refl
length-bytes (w ∷ ws) = let more : length (flat_map weight_bytes ws) ≡ 2 * length ws = length-bytes ws in omega (arith, more)

pub level_few : (v : Variable) (level : ℕ) (es : List Element) → length (level_bytes (all_own v es) level) ≤ 2 * length es
level_few v level es = grind (arith, common_steps, slice_index, passed_few, length-map, length-bytes)

-- ---- elements that were read, before those that are left

pub own-read : (u v : Variable) (left rest : List (List ℕ)) (piece : List Element) → left ≡ all_own u piece ++ rest → u ≡ v → left ≡ all_own v piece ++ rest
own-read u v left rest piece split same = split ∙ ap (λ w. all_own w piece ++ rest) same

pub weights-read : (u v : Variable) (level : ℕ) (left rest : List (List ℕ)) (piece : List Element) → left ≡ all_own u piece ++ rest → u ≡ v
    → level_weights level left ≡ level_weights level (all_own v piece) ++ level_weights level rest
weights-read u v level left rest piece split same = ap (level_weights level) (own-read u v left rest piece split same) ∙ level_weights-append level (all_own v piece) rest

pub bytes-read : (u v : Variable) (level : ℕ) (left rest : List (List ℕ)) (piece : List Element) → left ≡ all_own u piece ++ rest → u ≡ v
    → level_bytes left level ≡ level_bytes (all_own v piece) level ++ level_bytes rest level
bytes-read u v level left rest piece split same = ap (λ ws. level_bytes ws level) (own-read u v left rest piece split same) ∙ level_bytes-append level (all_own v piece) rest

-- what the functions that put weights need
pub ruleset weight_steps = (common_steps, primary-one, own_bytes-both, unchanged-both, weights-read, stays-beyond, beyond-more, IsPutting-start, IsPutting-more)
