-- The digits of sixteen bytes together.
use Rattle.std.proofs.Common.{◌≡◌, ℕ, ◌+◌, ◌/◌, ◌%◌, ◌^◌, ◌<◌, ◌≤◌, List, [], ◌∷◌, ◌++◌, length, map, take, get_or, replicate, bit_and, eqb, eqb→eq, refl, sym, ap, subst, ◌∙◌, arith, w8, Fits}
use Rattle.std.proofs.lemmas.List.{get_or-map, length-map, length-take, take-take, ext_get_or}
use Rattle.std.proofs.Math.Seq.{take-append-add}
use Rattle.std.proofs.lemmas.Nat.{and_le_r, and_mask}
use Rattle.std.proofs.lemmas.Simd.{Each1-all, Each1-get_or, Each1-weaker, Each1-zip2, Each2-splat, below_from_Fits, length-zip2, zip2_splat, swz_l, SwzOk, SwzOk-from_below, length-swz_l, get_or-swz_l_below, take_more_put_chunk, pick_l_whole}
use lib.Lanes.{zip2, Each1, pick_l, put_chunk}
use Rattle.simdutf8.proofs.Pairs.{every_below}
use Rattle.uca_io.specs.Digits.{hex_digit}
use Rattle.uca_io.specs.Hex.{spaced, spaced_pairs}
use Rattle.uca_io.specs.declared.hex.TheConstants.{DIGITS}

digit_at : (n : ℕ) → n < 16 → get_or DIGITS n 0 ≡ hex_digit n
digit_at n low = eqb→eq _ _ (every_below (λ i. eqb (get_or DIGITS i 0) (hex_digit i)) 16 tt n low)

-- numbers below 16 as digits
digits_of : (g : ℕ → ℕ) (v js : List ℕ) → length v ≡ 16 → js ≡ map g v → Each1 (λ j. j < 16) js → swz_l w8 16 DIGITS 0 js ≡ map (λ b. hex_digit (g b)) v
digits_of g v js long is small =
    let same : length js ≡ 16 = ap length is ∙ length-map v g ∙ long in
    ext_get_or 0 _ _ (length-swz_l w8 16 DIGITS 0 js ∙ same ∙ sym (length-map v (λ b. hex_digit (g b)) ∙ long)) (λ i within.
    let low : i < 16 = omega (arith, length-swz_l w8 16 DIGITS 0 js) in
    let here : get_or js i 0 ≡ g (get_or v i 0) = ap (λ l. get_or l i 0) is ∙ get_or-map g v i 0 0 (omega (arith, long)) in
    let below : get_or js i 0 < 16 = Each1-get_or (λ j. j < 16) js i 0 (omega arith) small in
    get_or-swz_l_below w8 16 DIGITS 0 js i (omega arith) below
    ∙ ap (λ k. get_or DIGITS k 0) (omega arith)
    ∙ digit_at (get_or js i 0) below
    ∙ ap hex_digit here
    ∙ sym (get_or-map (λ b. hex_digit (g b)) v i 0 0 (omega (arith, long))))

-- ---- the first digits

abbrev down : ℕ → ℕ → ℕ
down a b = a / 2 ^ b

high_small : (v : List ℕ) → length v ≡ 16 → Each1 (Fits w8) v → Each1 (λ j. j < 16) (zip2 down v (replicate 16 4))
high_small v long fits =
    let small = Each1-weaker (λ a. a < 256) (λ a. a / 16 < 16) (λ a h. omega arith) v (below_from_Fits w8 v fits) in
    Each1-zip2 down (λ j. j < 16) v (replicate 16 4) (Each2-splat (λ a b. down a b < 16) v 16 4 small)

pub high_within : (v : List ℕ) → length v ≡ 16 → Each1 (Fits w8) v → SwzOk w8 16 16 0 (zip2 down v (replicate 16 4))
high_within v long fits = SwzOk-from_below w8 16 1 16 0 (zip2 down v (replicate 16 4)) refl (omega (arith, length-zip2 down v (replicate 16 4) long)) (high_small v long fits)

pub high_digits : (v : List ℕ) → length v ≡ 16 → Each1 (Fits w8) v → swz_l w8 16 DIGITS 0 (zip2 down v (replicate 16 4)) ≡ map (λ b. hex_digit (b / 16)) v
high_digits v long fits = digits_of (λ b. b / 16) v _ long (zip2_splat down v 16 4 long) (high_small v long fits)

-- ---- the second digits

low_small : (v : List ℕ) → length v ≡ 16 → Each1 (λ j. j < 16) (zip2 bit_and v (replicate 16 15))
low_small v long =
    let small = Each1-all (λ a. bit_and a 15 < 16) (λ a. omega (arith, and_le_r a 15)) v in
    Each1-zip2 bit_and (λ j. j < 16) v (replicate 16 15) (Each2-splat (λ a b. bit_and a b < 16) v 16 15 small)

pub low_within : (v : List ℕ) → length v ≡ 16 → SwzOk w8 16 16 0 (zip2 bit_and v (replicate 16 15))
low_within v long = SwzOk-from_below w8 16 1 16 0 (zip2 bit_and v (replicate 16 15)) refl (omega (arith, length-zip2 bit_and v (replicate 16 15) long)) (low_small v long)

masked : (v : List ℕ) → map (λ b. bit_and b 15) v ≡ map (λ b. b % 16) v
masked [] = refl
masked (b ∷ v) = let here : bit_and b 15 ≡ b % 16 = and_mask b 4 in let rest : map (λ b. bit_and b 15) v ≡ map (λ b. b % 16) v = masked v in cc

pub low_digits : (v : List ℕ) → length v ≡ 16 → swz_l w8 16 DIGITS 0 (zip2 bit_and v (replicate 16 15)) ≡ map (λ b. hex_digit (b % 16)) v
low_digits v long = digits_of (λ b. b % 16) v _ long (zip2_splat bit_and v 16 15 long ∙ masked v) (low_small v long)

-- ---- pairs of digits

-- eight pairs with a blank before each, and eight blanks
abbrev pub with_blanks : List ℕ → List ℕ
with_blanks digits =
    pick_l 0 (digits ++ replicate 16 32)
    (16 ∷ 0 ∷ 1 ∷ 16 ∷ 2 ∷ 3 ∷ 16 ∷ 4 ∷ 5 ∷ 16 ∷ 6 ∷ 7 ∷ 16 ∷ 8 ∷ 9 ∷ 16 ∷ 10 ∷ 11 ∷ 16 ∷ 12 ∷ 13 ∷ 16 ∷ 14 ∷ 15 ∷ 16 ∷ 16 ∷ 16 ∷ 16 ∷ 16 ∷ 16 ∷ 16 ∷ 16 ∷ [])

pub eight_pairs : (digits : List ℕ) → length digits ≡ 16 → take 24 (with_blanks digits) ≡ spaced digits
eight_pairs digits long = subst (λ d. take 24 (with_blanks d) ≡ spaced d) (pick_l_whole 0 digits 16 long) refl

-- the front of a block that was stored at a place
pub stored : (at : ℕ) (room block front : List ℕ) → at + 32 ≤ length room → length block ≡ 32 → take 24 block ≡ front → take (at + 24) (put_chunk at room block) ≡ take at room ++ front
stored at room block front fits long is =
    let whole : take (at + 32) (put_chunk at room block) ≡ take at room ++ block = take_more_put_chunk at room block (at + 32) (omega (arith, long)) fits in
    let before : length (take at room) ≡ at = omega (arith, length-take at room) in
    sym (take-take (at + 24) (at + 32) (put_chunk at room block) (omega arith))
    ∙ ap (take (at + 24)) whole
    ∙ ap (λ n. take (n + 24) (take at room ++ block)) (sym before)
    ∙ take-append-add (take at room) block 24
    ∙ ap (λ l. take at room ++ l) is

-- the first and the second digits of sixteen bytes in turn: of the first eight bytes, and of the others
abbrev pub front_of : List ℕ → List ℕ → List ℕ
front_of a b = pick_l 0 (a ++ b) (0 ∷ 16 ∷ 1 ∷ 17 ∷ 2 ∷ 18 ∷ 3 ∷ 19 ∷ 4 ∷ 20 ∷ 5 ∷ 21 ∷ 6 ∷ 22 ∷ 7 ∷ 23 ∷ [])

abbrev pub back_of : List ℕ → List ℕ → List ℕ
back_of a b = pick_l 0 (a ++ b) (8 ∷ 24 ∷ 9 ∷ 25 ∷ 10 ∷ 26 ∷ 11 ∷ 27 ∷ 12 ∷ 28 ∷ 13 ∷ 29 ∷ 14 ∷ 30 ∷ 15 ∷ 31 ∷ [])

abbrev firsts : List ℕ → List ℕ
firsts v = map (λ b. hex_digit (b / 16)) v

abbrev seconds : List ℕ → List ℕ
seconds v = map (λ b. hex_digit (b % 16)) v

pub sixteen_pairs : (v a b : List ℕ) → length v ≡ 16 → a ≡ map (λ b. hex_digit (b / 16)) v → b ≡ map (λ b. hex_digit (b % 16)) v → spaced (front_of a b) ++ spaced (back_of a b) ≡ spaced_pairs v
sixteen_pairs v a b long first second =
    ap (λ l. spaced (front_of l b) ++ spaced (back_of l b)) first
    ∙ ap (λ l. spaced (front_of (firsts v) l) ++ spaced (back_of (firsts v) l)) second
    ∙ subst (λ w. spaced (front_of (firsts w) (seconds w)) ++ spaced (back_of (firsts w) (seconds w)) ≡ spaced_pairs w) (pick_l_whole 0 v 16 long) refl
