-- The bytes that two texts have in common, block by block.
use Rattle.std.proofs.Common.{◌≡◌, ℕ, suc, ◌+◌, ◌-◌, ◌%◌, ◌^◌, ◌≤◌, Bool, not, cond, eqb, List, [], ◌∷◌, ◌++◌, map, length, length-append, take, drop, w8, refl, sym, ap, ap₂, subst, ◌∙◌, arith, inl, inr, take-add}
use Rattle.std.proofs.lemmas.List.{append_cancel_left, take-append-le, take_all}
use Rattle.std.proofs.lemmas.List.Sums.{prefix_len-le-length}
use Rattle.std.proofs.Math.Seq.{take-append-add}
use Rattle.std.proofs.lemmas.Bool.{cases_Bool, eqb-true}
use Rattle.std.proofs.lemmas.Simd.{tops_compared, first_set_mask_l, length-chunk, length-zip2, mask_l-mod}
use Rattle.std.specs.List.{prefix_len}
use lib.Count.{count_trailing_zeros}
use lib.Lanes.{zip2, mask_l, top, chunk}
use lib.Seq.{take-take}
use Rattle.std.proofs.lemmas.Grind.{common_steps}

abbrev pub differ : ℕ → ℕ → Bool
differ a b = not (eqb a b)

map-itself : (ms : List Bool) → map (λ m. m) ms ≡ ms
map-itself [] = refl
map-itself (m ∷ ms) = ap (λ l. m ∷ l) (map-itself ms)

same-front : (xs ys : List ℕ) → length xs ≡ length ys → take (prefix_len (λ m. not m) (zip2 differ xs ys)) xs ≡ take (prefix_len (λ m. not m) (zip2 differ xs ys)) ys
same-front [] [] e = refl
same-front [] (y ∷ ys) e = absurd (omega arith)
same-front (x ∷ xs) [] e = absurd (omega arith)
same-front (x ∷ xs) (y ∷ ys) e = elim (cases_Bool (eqb x y)) [
  | inl same ↦
      let n = prefix_len (λ m. not m) (zip2 differ xs ys) in
      let more : 1 + n ≡ suc n = omega arith in
      rw same (ap (λ k. take k (x ∷ xs)) more ∙ ap₂ (λ z zs. z ∷ zs) (eqb-true x y same) (same-front xs ys (omega arith)) ∙ sym (ap (λ k. take k (y ∷ ys)) more))
  | inr other ↦ rw other refl
]

-- how many lanes come before the first that differs, by the mask of those that do
pub in-block : (n : ℕ) (xs ys us ws : List ℕ) (mask k : ℕ) → n ≤ 64 → xs ≡ us → ys ≡ ws → length us ≡ n → length ws ≡ n
    → mask ≡ mask_l (map (top 7) (zip2 (λ a b. cond (differ a b) 255 0) xs ys)) % 2 ^ 64 → k ≡ cond (eqb mask 0) n (count_trailing_zeros 64 mask) → (k ≤ n) × (take k us ≡ take k ws)
in-block n xs ys us ws mask k few are_a are_b long_a long_b is k_is =
    let ms = zip2 differ us ws in
    let long : length ms ≡ n = length-zip2 differ us ws (long_a ∙ sym long_b) ∙ long_a in
    let mask_is : mask ≡ mask_l (map (λ m. m) ms) =
    is ∙ ap₂ (λ a b. mask_l (map (top 7) (zip2 (λ a b. cond (differ a b) 255 0) a b)) % 2 ^ 64) are_a are_b ∙ ap (λ l. mask_l l % 2 ^ 64) (tops_compared w8 differ us ws) ∙ mask_l-mod ms 64 (omega (arith, long, few)) ∙ ap mask_l (sym (map-itself ms)) in
    let counted : k ≡ prefix_len (λ m. not m) ms =
    k_is ∙ ap (λ k. cond (eqb k 0) n (count_trailing_zeros 64 k)) mask_is ∙ first_set_mask_l (λ m. m) ms n long few in
    (omega (arith, counted, prefix_len-le-length (λ m. not m) ms, long), rw counted (same-front us ws (long_a ∙ sym long_b)))

pub length-blocks : (n first second : ℕ) (l : List ℕ) → first + n ≤ length l → second + n ≤ length l → length (chunk first n l ++ chunk second n l) ≡ n + n
length-blocks n first second l in_first in_second = grind (arith, common_steps, length-append, length-chunk)

-- a shorter front is the same too
pub common-fewer : (a b : List ℕ) (more at : ℕ) → at ≤ more → take more a ≡ take more b → take at a ≡ take at b
common-fewer a b more at fewer same = sym (take-take at more a fewer) ∙ ap (take at) same ∙ take-take at more b fewer

-- more bytes in common from a place on
common-more : (n : ℕ) (a b : List ℕ) (at k : ℕ) → take at a ≡ take at b → k ≤ n → take k (chunk at n a) ≡ take k (chunk at n b) → take (at + k) a ≡ take (at + k) b
common-more n a b at k before small more = take-add at k a ∙ ap₂ (λ x y. x ++ y) before (part a ∙ more ∙ sym (part b)) ∙ sym (take-add at k b)
  where
    part : (l : List ℕ) → take k (drop at l) ≡ take k (chunk at n l)
    part l = sym (take-take k n (drop at l) small)

-- what two pairs of lists have in common, in the first of each
front-in-common : (xs xs' ys ys' : List ℕ) (k : ℕ) → length ys ≡ length xs → k ≤ length xs → take k (xs ++ xs') ≡ take k (ys ++ ys') → take k xs ≡ take k ys
front-in-common xs xs' ys ys' k even few same = sym (take-append-le k xs xs' few) ∙ same ∙ take-append-le k ys ys' (omega (arith, even, few))

-- the same in the second of each, where all of the first is
back-in-common : (xs xs' ys ys' : List ℕ) (k : ℕ) → length ys ≡ length xs → take (length xs + k) (xs ++ xs') ≡ take (length xs + k) (ys ++ ys') → take k xs' ≡ take k ys'
back-in-common xs xs' ys ys' k even same =
    let fewer = common-fewer (xs ++ xs') (ys ++ ys') (length xs + k) (length xs) (omega arith) same in
    let front : xs ≡ ys =
    sym (take_all (length xs) xs (omega arith)) ∙ front-in-common xs xs' ys ys' (length xs) even (omega arith) fewer ∙ take_all (length xs) ys (omega (arith, even)) in
    append_cancel_left xs (take k xs') (take k ys') (
    sym (take-append-add xs xs' k) ∙ same ∙ ap (λ m. take (m + k) (ys ++ ys')) (sym even) ∙ take-append-add ys ys' k ∙ ap (λ l. l ++ take k ys') (sym front)
    )

-- two texts have in common what their blocks from the place `at` on have, where that ends in the first
pub common-in-first : (n : ℕ) (a b : List ℕ) (at next k : ℕ) → at + n ≤ length a → at + n ≤ length b → take at a ≡ take at b → k ≤ n
    → take k (chunk at n a ++ chunk next n a) ≡ take k (chunk at n b ++ chunk next n b) → take (at + k) a ≡ take (at + k) b
common-in-first n a b at next k in_a in_b before few same = grind (arith, common_steps, length-chunk, common-more, front-in-common)

-- where it ends in the second, which begins within the first or right after it
pub common-in-second : (n : ℕ) (a b : List ℕ) (at next k end : ℕ) → at + n ≤ length a → at + n ≤ length b → take at a ≡ take at b → next ≤ at + n → n ≤ k → k ≤ n + n → end + n ≡ next + k
    → take k (chunk at n a ++ chunk next n a) ≡ take k (chunk at n b ++ chunk next n b) → take end a ≡ take end b
common-in-second n a b at next k end in_a in_b before near more few ends same =
    let long_a = length-chunk at n a in_a in
    let long_b = length-chunk at n b in_b in
    let first = common-in-first n a b at next n in_a in_b before (omega arith) (common-fewer (chunk at n a ++ chunk next n a) (chunk at n b ++ chunk next n b) k n more same) in
    let k_is : k ≡ length (chunk at n a) + (k - n) = omega (arith, long_a, more) in
    let end_is : next + (k - n) ≡ end = omega (arith, ends, more) in
    let second = back-in-common (chunk at n a) (chunk next n a) (chunk at n b) (chunk next n b) (k - n) (long_b ∙ sym long_a)
    (subst (λ m. take m (chunk at n a ++ chunk next n a) ≡ take m (chunk at n b ++ chunk next n b)) k_is same) in
    subst (λ m. take m a ≡ take m b) end_is (common-more n a b next (k - n) (common-fewer a b (at + n) next near first) (omega (arith, few)) second)
