-- Packed keys are byte strings, and have few bytes for each byte of their text.
use Rattle.uca_key.proofs.Common.{ℕ, zero, suc, ◌+◌, ◌-◌, ◌*◌, ◌%◌, ◌^◌, ◌≤◌, ◌<◌, Bool, true, false, cond, nat_lt, ◌==◌, List, [], ◌∷◌, ◌++◌, length, arith, inl, inr, length-append, cases_lt, cond-true, cond-false, lt-ltb, le-ltb, nat_tests, common_steps, sum_by-cons, take-append_seam, sum_by, nfd, Settings, levels, weighted, ElementTable, IsTable, elements, AreBytes, level_weights, code_point_bytes, weight_bytes, levels-within, each-append, CodeState, PrimaryCode, after_lead, after_slot, has_page, is_common, is_single, lead, letter_bytes, page_of, past, primary_bytes, primary_level, second_bytes, start, state_after, above_bytes, common_weight, later_levels, other_bytes, packed_key, packed_later, runs_after}
use Rattle.uca_key.specs.PrimaryCode.{code_of}
use Rattle.std.proofs.Math.Nat.{mul-le-mul_right}
use Rattle.std.specs.Str.{IsUtf8, chars}
use Rattle.uca_key.proofs.BoundLemmas.{points-bytes}
use Rattle.uca_key.proofs.KeyOrder.{kind_of}
use Rattle.uca_key.proofs.KeySize.{bytes_few, elements_few, length-weighted_after, point_few, short_text, weights_few}
use Rattle.uca_key.proofs.PackedLetters.{at_above, at_below, at_inside, place_of}
use Rattle.uca_key.proofs.PackedPieces.{packed-coded, packed-front, packed-levels}
use Rattle.uca_key.proofs.PackedRuns.{run_above, run_below, run_common, run_full}

-- so many bytes at most
record FewBytes (n : ℕ) (bytes : List ℕ) : Type 0 where
  are : AreBytes bytes
  most : length bytes ≤ n

few-more : (m n : ℕ) (xs : List ℕ) → FewBytes m xs → m ≤ n → FewBytes n xs
few-more m n xs h within = record { are = h.are; most = omega (arith, h.most, within) }

few-cons : (b n : ℕ) (xs : List ℕ) → b < 256 → FewBytes n xs → FewBytes (n + 1) (b ∷ xs)
few-cons b n xs byte h = record { are = (byte, h.are); most = omega (arith, h.most) }

few-append : (m n : ℕ) (xs ys : List ℕ) → FewBytes m xs → FewBytes n ys → FewBytes (m + n) (xs ++ ys)
few-append m n xs ys h g = record { are = each-append (λ (b : ℕ). b < 256) xs ys h.are g.are; most = omega (arith, h.most, g.most, length-append xs ys) }

few-if : (b : Bool) (n : ℕ) (xs ys : List ℕ) → FewBytes n xs → FewBytes n ys → FewBytes n (cond b xs ys)
few-if true n xs ys h g = h
few-if false n xs ys h g = g

-- ---- leads

past-most : (w s : ℕ) → past w s ≤ 2
past-most w s = grind (arith, nat_tests)

sums-most : (w : ℕ) (l : List ℕ) → sum_by (past w) l ≤ 2 * length l
sums-most w [] = omega arith
sums-most w (s ∷ l) = let parts = sum_by-cons (past w) s l in let here = past-most w s in let later = sums-most w l in omega arith

page-most : (w : ℕ) → page_of w ≤ 110
page-most w = grind (arith, nat_tests)

-- with twelve weights that have a byte of their own, leads are few enough for the window
lead-most : (k : PrimaryCode) (w : ℕ) → length k.singles ≤ 12 → lead k w ≤ 135
lead-most k w few = let page = page-most w in let sums = sums-most w k.singles in omega arith

-- ---- weights

few-one : (w : ℕ) → FewBytes 1 ((w % 256) ∷ [])
few-one w = record { are = (omega arith, tt); most = omega arith }

few-pair : (w : ℕ) → FewBytes 2 (weight_bytes w)
few-pair w = record { are = (omega arith, (omega arith, tt)); most = omega arith }

few-none : (n : ℕ) → FewBytes n []
few-none n = record { are = tt; most = omega arith }

few-lead : (k : PrimaryCode) (w : ℕ) → FewBytes 2 (after_lead k w)
few-lead k w = few-if (is_single k w) 2 _ _ (few-none 2) (few-if (has_page w) 2 _ _ (few-more 1 2 _ (few-one w) (omega arith)) (few-pair w))

few-slot : (k : PrimaryCode) (w : ℕ) → FewBytes 2 (after_slot k w)
few-slot k w = few-if (is_common k w) 2 _ _ (few-none 2) (few-more 1 2 _ (few-one w) (omega arith))

few-letter : (k : PrimaryCode) (base w : ℕ) → length k.singles ≤ 12 → FewBytes 3 (letter_bytes k base w)
few-letter k base w few = grind (arith, common_steps, lead-most, place_of, at_below, few-lead, at_inside, few-slot, at_above)

few-second : (w : ℕ) → FewBytes 3 (second_bytes w)
few-second w = few-if (nat_lt w 0x8000) 3 _ _ (few-cons 1 2 _ (omega arith) (few-pair w)) (few-more 2 3 _ (few-pair w) (omega arith))

-- three bytes a weight, and one for the end
few-primary : (k : PrimaryCode) (p : CodeState) (ws : List ℕ) → length k.singles ≤ 12 → FewBytes (3 * length ws + 1) (primary_level k p ws)
few-primary k p [] few = record { are = (omega arith, tt); most = omega arith }
few-primary k p (w ∷ ws) few =
    let first : FewBytes 3 (primary_bytes k p w) = few-if p.second 3 _ _ (few-second w) (few-letter k p.base w few) in
    few-more _ _ _ (few-append 3 _ _ _ first (few-primary k (state_after k p w) ws few)) (omega arith)

-- ---- runs

few-other : (w : ℕ) → FewBytes 3 (other_bytes w)
few-other w = grind (arith, common_steps, cases_lt, cond-true, lt-ltb, cond-false, le-ltb, few-pair)

few-above : (c n w : ℕ) → FewBytes 4 (above_bytes c n w)
few-above c n w = grind (arith, common_steps, cases_lt, cond-true, lt-ltb, cond-false, le-ltb, few-other)

-- four bytes a weight, and one for the end
few-runs : (c n : ℕ) (ws : List ℕ) → n < 62 → FewBytes (4 * length ws + 1) (runs_after c n ws)
few-runs c n [] few = record { are = (omega arith, tt); most = omega arith }
few-runs c n (w ∷ ws) few =
    let rest : FewBytes (4 * length ws + 1) (runs_after c 0 ws) = few-runs c 0 ws (omega arith) in
    elim (kind_of w c) [
      | inl lower ↦ rw (run_below c n w ws lower) (few-more _ _ _ (few-append 4 _ _ _ (few-cons (2 * n + 1) 3 _ (omega arith) (few-other w)) rest) (omega arith))
      | inr (inl same) ↦ elim (cases_lt n 61) [
        | inl more ↦ rw (run_common c n w ws same more) (few-more _ _ _ (few-runs c (n + 1) ws (omega arith)) (omega arith))
        | inr last ↦ rw (run_full c n w ws same (omega arith)) (few-more _ _ _ (few-cons 124 _ _ (omega arith) rest) (omega arith))
      ]
      | inr (inr higher) ↦ rw (run_above c n w ws higher) (few-more _ _ _ (few-append 4 _ _ _ (few-above c n w) rest) (omega arith))
    ]

-- ---- keys

few-later : (ws : List (List ℕ)) (points : List ℕ) (level : ℕ) → FewBytes (4 * length ws + 3 * length points + 1) (packed_later ws points level)
few-later ws points level =
    let few = weights_few level ws in
    few-if (level == 5) _ _ _ (record { are = points-bytes points; most = omega (arith, bytes_few code_point_bytes point_few points) })
    (few-more _ _ _ (few-runs (common_weight level) 0 (level_weights level ws) (omega arith)) (omega arith))

few-levels : (m level : ℕ) (ws : List (List ℕ)) (points : List ℕ) → FewBytes (m * (4 * length ws + 3 * length points + 1)) (later_levels m level ws points)
few-levels zero level ws points = few-none _
few-levels (suc m) level ws points = few-more _ _ _ (few-append _ _ _ _ (few-later ws points level) (few-levels m (level + 1) ws points)) (omega arith)

few-singles : (t : ElementTable) → length ((code_of t).singles) ≤ 12
unfolding code_of
few-singles t = omega arith

few-key : (t : ElementTable) (s : Settings) (text : List ℕ) → FewBytes (19 * length (elements t (nfd text)) + 12 * length (nfd text) + 5) (packed_key t s text)
few-key t s text =
    let ws : List (List ℕ) = weighted s.weighting (elements t (nfd text)) in let points : List ℕ = nfd text in
    let few = weights_few 1 ws in let same = length-weighted_after s.weighting [] (elements t points) in
    let most = mul-le-mul_right {m = levels s.strength - 1} {n = 4} (4 * length ws + 3 * length points + 1) (omega (arith, (levels-within s.strength).1)) in
    let k = code_of t in
    rw (packed-coded t s text, packed-levels k t s text)
    (few-more _ _ _ (few-append _ _ _ _ (few-primary k (start k) (level_weights 1 ws) (few-singles t)) (few-levels (levels s.strength - 1) 2 ws points)) (omega (arith, few, same, most)))

pub packed-bytes : (t : ElementTable) (s : Settings) (text : List ℕ) → AreBytes (packed_key t s text)
packed-bytes t s text = (few-key t s text).are

-- the bytes of the packed key of a short text can be counted
pub length-packed_key : (t : ElementTable) (s : Settings) (bytes : List ℕ) → IsTable t → IsUtf8 bytes → length bytes ≤ 65536 → length (packed_key t s (chars bytes)) < 2 ^ 60
length-packed_key t s bytes table utf8 few =
    let text : List ℕ = chars bytes in
    omega (arith, (few-key t s text).most, short_text bytes utf8 few, elements_few (length (nfd text)) t (nfd text) (omega arith) table)

-- what the functions on packed keys need
pub ruleset key_steps = (common_steps, packed-coded, packed-front, length-packed_key, length-append, take-append_seam)
