-- A key has few bytes for each byte of its text.
use Rattle.uca_key.proofs.Common.{◌≡◌, ℕ, zero, suc, ◌+◌, ◌-◌, ◌*◌, ◌^◌, ◌≤◌, ◌<◌, Bool, true, false, cond, List, [], ◌∷◌, ◌++◌, length, filter, flat_map, slice_index, unwrap_or, Option, Some, None, refl, ap, ◌∙◌, arith, length-append, cases_Bool, cond-true, cond-false, length-map, encodes-chars, Nfd, nfd, Element, Settings, Variable, levels, weighted_after, ElementTable, IsTable, elements_at, is_key, step, elements, elements_or_implicit, level_weights, level_list, bytes_at, key_from, sort_key, weight_bytes, code_point_bytes, sort_key-levels, levels-within, common_steps}
use Rattle.std.specs.Str.{IsUtf8, chars}
use Rattle.std.specs.Option.{option_map_or}
use Rattle.unicode_normalization.proofs.LengthLemmas.{length-normalize}
use Rattle.uca_weights.specs.declared.range.Ideographs.{Ideographs}
use Rattle.uca_weights.specs.declared.range.Range.{Range}
use Rattle.uca_model.specs.ImplicitWeights.{implicit, implicit_over, in_range}
use Rattle.uca_model.proofs.RewritingLemmas.{elements_nil, elements_step, step_shorter}
use Rattle.uca_model.proofs.TableLemmas.{IsEntry-elements_at}

either_few : (b : Bool) (x y : List Element) → length x ≤ 64 → length y ≤ 64 → length (cond b x y) ≤ 64
either_few true x y h k = h
either_few false x y h k = k

in_range_few : (ranges : List Range) (c : ℕ) (o : Option Range) (other : List Element) → length other ≤ 64 → length (option_map_or (in_range ranges c) o other) ≤ 64
in_range_few ranges c None other h = h
in_range_few ranges c (Some r) other h = omega arith

implicit_few : (ranges : List Range) (added : List Ideographs) (c : ℕ) → length (implicit_over ranges added c) ≤ 64
unfolding implicit_over
implicit_few ranges added c = grind (arith, common_steps, either_few, in_range_few)

given_few : (t : ElementTable) (key : List ℕ) → IsTable t → length (elements_or_implicit t key) ≤ 64
given_few t key table = of_answer (elements_at t key) refl
  where
    of_answer : (o : Option (List Element)) → elements_at t key ≡ o → length (unwrap_or o (implicit t (slice_index key 0))) ≤ 64
    of_answer None e = implicit_few t.ranges t.ideographs (slice_index key 0)
    of_answer (Some es) e = (IsEntry-elements_at t key es table e).few_elements

pub elements_few : (n : ℕ) (t : ElementTable) (xs : List ℕ) → length xs ≤ n → IsTable t → length (elements t xs) ≤ 64 * length xs
elements_few n t [] few table = omega (arith, ap length (elements_nil t))
elements_few zero t (x ∷ xs) few table = absurd (omega arith)
elements_few (suc n) t (x ∷ xs) few table =
    let key : List ℕ = (step (is_key t) (x ∷ xs)).matched.code_points in
    let rest : List ℕ = (step (is_key t) (x ∷ xs)).rest in
    let shorter : length rest < suc (length xs) = step_shorter (is_key t) (x ∷ xs) (omega arith) in
    let whole : length (elements t (x ∷ xs)) ≡ length (elements_or_implicit t key) + length (elements t rest) = ap length (elements_step t (x ∷ xs) (omega arith)) ∙ length-append (elements_or_implicit t key) (elements t rest) in
    omega (arith, whole, given_few t key table, elements_few n t rest (omega arith) table)

pub length-weighted_after : (v : Variable) (before es : List Element) → length (weighted_after v before es) ≡ length es
length-weighted_after v before [] = refl
length-weighted_after v before (e ∷ es) = ap suc (length-weighted_after v (before ++ e ∷ []) es)

pub passed_few : (p : ℕ → Bool) (xs : List ℕ) → length (filter p xs) ≤ length xs
passed_few p [] = omega arith
passed_few p (x ∷ xs) = grind (arith, common_steps, cases_Bool, cond-true, cond-false, passed_few p xs, passed_few p xs)

pub bytes_few : (f : ℕ → List ℕ) → ((x : ℕ) → length (f x) ≤ 3) → (xs : List ℕ) → length (flat_map f xs) ≤ 3 * length xs
bytes_few f h [] = omega arith
bytes_few f h (x ∷ xs) = omega (arith, length-append (f x) (flat_map f xs), h x, bytes_few f h xs)

weight_few : (w : ℕ) → length (weight_bytes w) ≤ 3
weight_few w = omega arith

pub point_few : (c : ℕ) → length (code_point_bytes c) ≤ 3
point_few c = omega arith

pub weights_few : (level : ℕ) (ws : List (List ℕ)) → length (level_weights level ws) ≤ length ws
weights_few level ws = grind (arith, common_steps, passed_few, slice_index, length-map)

level_few : (t : ElementTable) (v : Variable) (text : List ℕ) (level : ℕ) → IsTable t → length (bytes_at level (level_list t v text level)) ≤ 192 * length (nfd text)
level_few t v text level table = grind (arith, common_steps, cases_Bool, cond-true, bytes_few, point_few, cond-false, weight_few, weights_few, length-weighted_after, elements_few)

key_few : (most n level : ℕ) (lists : ℕ → List ℕ) → ((k : ℕ) → length (bytes_at k (lists k)) ≤ most) → length (key_from n level lists) ≤ (n + 1) * (most + 2)
key_few most zero level lists few = omega (arith, few level)
key_few most (suc n) level lists few = omega (arith, length-append (bytes_at level (lists level)) (0 ∷ 0 ∷ key_from n (level + 1) lists), few level, key_few most n (level + 1) lists few)

-- the bytes of a key can be counted
pub length-sort_key : (t : ElementTable) (s : Settings) (bytes : List ℕ) → IsTable t → IsUtf8 bytes → length bytes < 2 ^ 64 → length (sort_key t s (chars bytes)) < 2 ^ 100
length-sort_key t s bytes table utf8 few =
    let text : List ℕ = chars bytes in
    let short : length (nfd text) ≤ 2 ^ 70 = omega (arith, length-normalize Nfd text, ap length (encodes-chars bytes utf8)) in
    omega (arith, ap length (sort_key-levels t s text), key_few (2 ^ 80) (levels s.strength - 1) 1 (level_list t s.weighting text) (λ k. omega (arith, level_few t s.weighting text k table, short)), (levels-within s.strength).0, (levels-within s.strength).1)

pub short_text : (bytes : List ℕ) → IsUtf8 bytes → length bytes ≤ 65536 → length (nfd (chars bytes)) ≤ 2 ^ 24
short_text bytes utf8 few = omega (arith, length-normalize Nfd (chars bytes), ap length (encodes-chars bytes utf8))

-- those of a key of a short text
pub length-key_few : (t : ElementTable) (s : Settings) (bytes : List ℕ) → IsTable t → IsUtf8 bytes → length bytes ≤ 65536 → length (sort_key t s (chars bytes)) < 2 ^ 60
length-key_few t s bytes table utf8 few =
    let text : List ℕ = chars bytes in
    omega (arith, ap length (sort_key-levels t s text), key_few (2 ^ 40) (levels s.strength - 1) 1 (level_list t s.weighting text) (λ k. omega (arith, level_few t s.weighting text k table, short_text bytes utf8 few)), (levels-within s.strength).0, (levels-within s.strength).1)
