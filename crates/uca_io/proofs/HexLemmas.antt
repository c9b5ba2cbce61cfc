-- Bytes as pairs of digits, piece by piece.
use Rattle.std.proofs.Common.{◌≡◌, ℕ, slice_index_or, ap₂, zero, suc, ◌+◌, ◌-◌, ◌*◌, ◌/◌, ◌%◌, ◌<◌, ◌≤◌, List, [], ◌∷◌, ◌++◌, length, take, drop, refl, sym, ap, subst, ◌∙◌, arith, append_assoc, append-nil}
use Rattle.std.proofs.lemmas.Grind.{flat_map-append}
use Rattle.std.proofs.lemmas.List.{take_all, take-take}
use Rattle.std.proofs.Math.Seq.{take-add}
use Rattle.std.specs.Simd.Lanes.{chunk}
use Rattle.uca_io.specs.Digits.{hex_digit, hex_pair}
use Rattle.uca_io.specs.Hex.{hex_text, spaced_pairs}
use Rattle.uca_io.specs.Words.{blank}

-- two digits and a blank for each byte
pub length-spaced_pairs : (bytes : List ℕ) → length (spaced_pairs bytes) ≡ 3 * length bytes
length-spaced_pairs [] = refl
length-spaced_pairs (b ∷ bytes) = let h : length (spaced_pairs bytes) ≡ 3 * length bytes = length-spaced_pairs bytes in omega arith

-- one more piece
pub spaced_pairs-parts : (sent bytes left front rest : List ℕ) → left ≡ front ++ rest → sent ++ spaced_pairs left ≡ spaced_pairs bytes → sent ++ (spaced_pairs front ++ spaced_pairs rest) ≡ spaced_pairs bytes
spaced_pairs-parts sent bytes left front rest parts complete = ap (λ l. sent ++ l) (sym (flat_map-append (λ b. blank ∷ hex_pair b) front rest)) ∙ ap (λ l. sent ++ spaced_pairs l) (sym parts) ∙ complete

-- the first byte has no blank before it
hex_text-first : (b : ℕ) (bytes : List ℕ) → hex_text (b ∷ bytes) ≡ hex_pair b ++ spaced_pairs bytes
hex_text-first b [] = refl
hex_text-first b (c ∷ bytes) = ap (λ l. hex_pair b ++ blank ∷ l) (hex_text-first c bytes)

-- two digits for each byte, and a blank between each two
pub length-hex_text : (bytes : List ℕ) → length (hex_text bytes) ≤ 3 * length bytes
length-hex_text [] = omega arith
length-hex_text (b ∷ bytes) =
    let first : length (hex_text (b ∷ bytes)) ≡ length (hex_pair b ++ spaced_pairs bytes) = ap length (hex_text-first b bytes) in
    omega (arith, first, length-spaced_pairs bytes)

-- a first piece, and what is after it
pub hex_text-parts : (first others : List ℕ) → 0 < length first → hex_text (first ++ others) ≡ hex_text first ++ spaced_pairs others
hex_text-parts [] others some = absurd (omega arith)
hex_text-parts (b ∷ first) others some =
    hex_text-first b (first ++ others)
    ∙ ap (λ l. hex_pair b ++ l) (flat_map-append (λ c. blank ∷ hex_pair c) first others)
    ∙ sym (append_assoc (hex_pair b) (spaced_pairs first) (spaced_pairs others))
    ∙ ap (λ l. l ++ spaced_pairs others) (sym (hex_text-first b first))

-- the digits of the first byte, and the pairs of the others
pub hex_text-pushed : (bytes : List ℕ) (d e : ℕ) → 0 < length bytes → d ≡ hex_digit (slice_index_or bytes 0 0 / 16) → e ≡ hex_digit (slice_index_or bytes 0 0 % 16) → hex_text bytes ≡ (d ∷ e ∷ []) ++ spaced_pairs (take (length bytes - 1) (drop 1 bytes))
hex_text-pushed [] d e some high low = absurd (omega arith)
hex_text-pushed (b ∷ bytes) d e some high low =
    hex_text-first b bytes ∙ ap₂ (λ x y. (x ∷ y ∷ []) ++ spaced_pairs bytes) (sym high) (sym low)
    ∙ ap (λ l. (d ∷ e ∷ []) ++ spaced_pairs l) (sym (take_all (length (b ∷ bytes) - 1) bytes (omega arith)))

-- nothing is left
pub all_sent : (sent left bytes : List ℕ) → length left ≡ 0 → sent ++ spaced_pairs left ≡ spaced_pairs bytes → sent ≡ spaced_pairs bytes
all_sent sent [] bytes none complete = sym (append-nil sent) ∙ complete
all_sent sent (b ∷ left) bytes none complete = absurd (omega arith)

-- ---- sixteen bytes at a time

pub take-spaced_pairs : (n : ℕ) (bytes : List ℕ) → take (3 * n) (spaced_pairs bytes) ≡ spaced_pairs (take n bytes)
take-spaced_pairs zero bytes = refl
take-spaced_pairs (suc n) [] =
    let three : suc (suc (suc (3 * n))) ≡ 3 * suc n = omega arith in
    let P : ℕ → Type 0 = λ k. take k (spaced_pairs []) ≡ spaced_pairs (take (suc n) []) in
    subst P three refl
take-spaced_pairs (suc n) (b ∷ bytes) =
    let three : suc (suc (suc (3 * n))) ≡ 3 * suc n = omega arith in
    let P : ℕ → Type 0 = λ k. take k (spaced_pairs (b ∷ bytes)) ≡ spaced_pairs (take (suc n) (b ∷ bytes)) in
    subst P three (ap (λ l. blank ∷ hex_digit (b / 16) ∷ hex_digit (b % 16) ∷ l) (take-spaced_pairs n bytes))

-- one block more
pub spaced_pairs-block : (n : ℕ) (bytes : List ℕ) → spaced_pairs (take (n + 16) bytes) ≡ spaced_pairs (take n bytes) ++ spaced_pairs (chunk n 16 bytes)
spaced_pairs-block n bytes = ap spaced_pairs (take-add n 16 bytes) ∙ flat_map-append (λ b. blank ∷ hex_pair b) (take n bytes) (chunk n 16 bytes)

-- fewer of the bytes that were put
pub put_fewer : (n m : ℕ) (room bytes : List ℕ) → n ≤ m → take (3 * m) room ≡ spaced_pairs (take m bytes) → take (3 * n) room ≡ spaced_pairs (take n bytes)
put_fewer n m room bytes le done =
    sym (take-take (3 * n) (3 * m) room (omega arith)) ∙ ap (take (3 * n)) done ∙ take-spaced_pairs n (take m bytes) ∙ ap spaced_pairs (take-take n m bytes le)

-- the last block completes the bytes
pub put_last : (last : ℕ) (before after bytes : List ℕ) → length bytes ≡ last + 16 → take (3 * last) before ≡ spaced_pairs (take last bytes) → take (3 * (last + 16)) after ≡ take (3 * last) before ++ spaced_pairs (chunk last 16 bytes)
    → take (3 * length bytes) after ≡ spaced_pairs bytes
put_last last before after bytes long done more =
    ap (λ n. take (3 * n) after) long
    ∙ more
    ∙ ap (λ l. l ++ spaced_pairs (chunk last 16 bytes)) done
    ∙ sym (spaced_pairs-block last bytes)
    ∙ ap spaced_pairs (take_all (last + 16) bytes (omega (arith, long)))
