-- Blocks of bytes that are tested lane by lane, alone or with the bytes before them, and texts whose bytes pass.
use Rattle.std.proofs.Common.{◌≡◌, ℕ, ◌+◌, ◌-◌, ◌%◌, ◌^◌, ◌≤◌, Bool, true, cond, ltb, leb, eqb, List, [], ◌∷◌, map, length, replicate, w8, Fits, refl, ap, ap₂, ◌∙◌, arith, zero, suc, ◌*◌, ◌<◌, false, nat_eq, ◌||◌, ◌++◌, get_or, take_all, length-append, bit_or, bit_xor, sym, subst, inl, inr, ◌⊎◌, nat_le, nat_lt, ◌==◌}
use Rattle.std.proofs.lemmas.Bool.{agree_below, agree_below_at, cases_lt, cases_order, or_parts}
use Rattle.std.proofs.lemmas.List.{length-map, get_or_append_left, get_or-append-add, get_or_past}
use Rattle.std.proofs.lemmas.Simd.{zip2_splat, map-map, mask_l-mod, zip2_splat_left, zip2_of_maps, pick_l-range_with_len, length-replicate, get_or-replicate, length-chunk, get_or-chunk}
use lib.Lanes.{zip2, mask_l, top, Each1, pick_l, sel_l, chunk}
use Rattle.std.specs.List.{range_with_len}
use Rattle.std.proofs.lemmas.Bool.Decides.{nat_tests}
use Rattle.std.proofs.lemmas.List.FromFn.{length-range_with_len}
use Rattle.uca_window.specs.Passing.{is_within}
use Rattle.uca_window.specs.Utf8.{is_one_of, is_unpaired, is_fault, ArePaired, AreFine}
use Rattle.std.proofs.lemmas.Grind.{common_steps}
use Rattle.std.specs.Str.{IsUtf8}
use Rattle.simdutf8.specs.Steps.{IsContinuation, IsClosed, Step, Steps}
use Rattle.simdutf8.specs.Tracks.{last_three}
use Rattle.simdutf8.proofs.Chars.{least_is, most_is, StepsThen-IsUtf8}
use Rattle.simdutf8.proofs.StepsLemmas.{At, StepsThen_parts, Steps_by_index}

-- ---- each byte of a block in its own lane

abbrev pub hit : ℕ → ℕ → ℕ
hit a b = cond (eqb a b) 255 0

abbrev pub below : ℕ → ℕ → ℕ
below a b = cond (ltb a b) 255 0

abbrev pub at_most : ℕ → ℕ → ℕ
at_most a b = cond (leb a b) 255 0

abbrev pub less : ℕ → ℕ → ℕ
less a b = (a + (256 - b)) % 256

-- lanes that were computed from v, against one number
pub against : (h : ℕ → ℕ → ℕ) (f : ℕ → ℕ) (y n : ℕ) (v : List ℕ) {a : List ℕ} → length v ≡ n → a ≡ map f v → zip2 h a (replicate n y) ≡ map (λ x. h (f x) y) v
against h f y n v long p = ap (λ a. zip2 h a (replicate n y)) p ∙ zip2_splat h (map f v) n y (length-map v f ∙ long) ∙ map-map (λ x. h x y) f v

-- a fact of each byte, by computation
each_byte : (f : ℕ → ℕ) (p : ℕ → Bool) → agree_below (λ x. top 7 (f x)) p 256 ≡ true → (v : List ℕ) → Each1 (Fits w8) v → map (top 7) (map f v) ≡ map p v
each_byte f p all [] fits = refl
each_byte f p all (x ∷ xs) fits = ap₂ (λ a b. a ∷ b) (agree_below_at (λ y. top 7 (f y)) p 256 x all fits.0.fits) (each_byte f p all xs fits.1)

-- the mask of lanes that say for each byte whether it passes a test
pub masked : (f : ℕ → ℕ) (p : ℕ → Bool) (v z : List ℕ) → length v ≤ 64 → Each1 (Fits w8) v → z ≡ map f v → agree_below (λ x. top 7 (f x)) p 256 ≡ true
    → mask_l (map (top 7) z) % 2 ^ 64 ≡ mask_l (map p v)
masked f p v z short fits e all =
    ap (λ l. mask_l l % 2 ^ 64) (ap (map (top 7)) e ∙ each_byte f p all v fits) ∙ mask_l-mod (map p v) 64 (omega (arith, length-map v p))

-- ---- blocks with the bytes before them

-- the lane of a comparison
abbrev pub lane : Bool → ℕ
lane t = cond t 255 0

-- the bytes of the block at a place
pub placed : (bytes : List ℕ) (at n : ℕ) → at + n ≤ length bytes → chunk at n bytes ≡ map (λ k. get_or bytes k 0) (range_with_len at n)
placed bytes at n room = sym (pick_l-range_with_len 0 bytes at n room)

-- the lanes of a vector
pub lanes_of : (v : List ℕ) (n : ℕ) → length v ≡ n → v ≡ map (λ k. get_or v k 0) (range_with_len 0 n)
lanes_of v n long = sym (take_all n v (omega (arith, long))) ∙ placed v 0 n (omega (arith, long))

pub lane_fits : (v : List ℕ) (i : ℕ) → Each1 (Fits w8) v → get_or v i 0 < 256
lane_fits [] i h = omega arith
lane_fits (x ∷ xs) zero h = h.0.fits
lane_fits (x ∷ xs) (suc i) h = lane_fits xs i h.1

-- a block that was computed from places, against one number
module _ (h : ℕ → ℕ → ℕ) (f : ℕ → ℕ) (y at n : ℕ) {a : List ℕ} (is : a ≡ map f (range_with_len at n)) where
  pub right : zip2 h a (replicate n y) ≡ map (λ k. h (f k) y) (range_with_len at n)
  right = grind (arith, common_steps, zip2_splat, length-map, length-range_with_len, map-map)

  pub left : zip2 h (replicate n y) a ≡ map (λ k. h y (f k)) (range_with_len at n)
  left = grind (arith, common_steps, zip2_splat_left, length-map, length-range_with_len, map-map)

-- ---- two comparisons

or_lanes : (s t : Bool) → bit_or (lane s) (lane t) ≡ lane (s || t)
or_lanes true true = refl
or_lanes true false = refl
or_lanes false true = refl
or_lanes false false = refl

xor_lanes : (s t : Bool) → bit_xor (lane s) (lane t) ≡ lane (is_one_of s t)
xor_lanes true true = refl
xor_lanes true false = refl
xor_lanes false true = refl
xor_lanes false false = refl

module _ (s t : ℕ → Bool) (ps : List ℕ) {a b : List ℕ} (p : a ≡ map (λ k. lane (s k)) ps) (q : b ≡ map (λ k. lane (t k)) ps) where
  pub either : zip2 bit_or a b ≡ map (λ k. lane (s k || t k)) ps
  either = zip2_of_maps bit_or (λ k. lane (s k)) (λ k. lane (t k)) ps p q ∙ (λ i. map (λ k. or_lanes (s k) (t k) i) ps)

  pub just_one : zip2 bit_xor a b ≡ map (λ k. lane (is_one_of (s k) (t k))) ps
  just_one = zip2_of_maps bit_xor (λ k. lane (s k)) (λ k. lane (t k)) ps p q ∙ (λ i. map (λ k. xor_lanes (s k) (t k) i) ps)

-- ---- no lane is set

tops : (t : ℕ → Bool) (ps : List ℕ) → map (top 7) (map (λ k. lane (t k)) ps) ≡ map t ps
tops t [] = refl
tops t (p ∷ ps) = ap₂ (λ x xs. x ∷ xs) (one (t p)) (tops t ps)
  where
    one : (b : Bool) → top 7 (lane b) ≡ b
    one true = refl
    one false = refl

-- one of two numbers in each lane
module _ (t : ℕ → Bool) (x y : ℕ) where
  chosen_of : (at n : ℕ) → sel_l (map t (range_with_len at n)) (replicate n x) (replicate n y) ≡ map (λ k. cond (t k) x y) (range_with_len at n)
  chosen_of at zero = refl
  chosen_of at (suc n) = ap (λ l. cond (t at) x y ∷ l) (chosen_of (at + 1) n)

  pub chosen : (at n : ℕ) {m : List ℕ} → m ≡ map (λ k. lane (t k)) (range_with_len at n) → sel_l (map (top 7) m) (replicate n x) (replicate n y) ≡ map (λ k. cond (t k) x y) (range_with_len at n)
  chosen at n is = ap (λ l. sel_l l (replicate n x) (replicate n y)) (ap (map (top 7)) is ∙ tops t (range_with_len at n)) ∙ chosen_of at n

unset : (b : Bool) (m : ℕ) → cond b 1 0 + 2 * m ≡ 0 → (b ≡ false) × (m ≡ 0)
unset true m e = absurd (omega arith)
unset false m e = (refl, omega arith)

none_set : (t : ℕ → Bool) (at n : ℕ) → mask_l (map t (range_with_len at n)) ≡ 0 → (k : ℕ) → at ≤ k → k < at + n → t k ≡ false
none_set t at zero e k from to = absurd (omega arith)
none_set t at (suc n) e k from to =
    let parts = unset (t at) (mask_l (map t (range_with_len (at + 1) n))) e in
    elim (cases_order k at) [
      | inl same ↦ subst (λ j. t j ≡ false) (sym same) parts.0
      | inr (inl below) ↦ absurd (omega arith)
      | inr (inr above) ↦ none_set t (at + 1) n parts.1 k (omega arith) (omega arith)
    ]

pub zero_from : (n : ℕ) → nat_eq n 0 ≡ true → n ≡ 0
zero_from n h = grind (arith, nat_tests)

-- where the mask of a block is empty, no place passes the test that its lanes are
pub none_passes : (t : ℕ → Bool) (at n : ℕ) {z : List ℕ} → z ≡ map (λ k. lane (t k)) (range_with_len at n) → n ≤ 64 → nat_eq (mask_l (map (top 7) z) % 2 ^ 64) 0 ≡ true
    → (k : ℕ) → at ≤ k → k < at + n → t k ≡ false
none_passes t at n is few none =
    let ps = range_with_len at n in
    let small = mask_l-mod (map t ps) 64 (omega (arith, length-map ps t, length-range_with_len at n)) in
    none_set t at n (sym small ∙ sym (ap (λ l. mask_l l % 2 ^ 64) (ap (map (top 7)) is ∙ tops t ps)) ∙ zero_from _ none)

-- ---- ranges of bytes, by one comparison each

pub continues_is : (b : ℕ) → b < 256 → ltb (less b 0x80) 0x40 ≡ is_within 0x80 0xC0 b
continues_is b h = agree_below_at (λ x. ltb (less x 0x80) 0x40) (is_within 0x80 0xC0) 256 b refl h

pub begins_two_is : (b : ℕ) → b < 256 → ltb (less b 0xC2) 0x1E ≡ is_within 0xC2 0xE0 b
begins_two_is b h = agree_below_at (λ x. ltb (less x 0xC2) 0x1E) (is_within 0xC2 0xE0) 256 b refl h

pub begins_is : (b : ℕ) → b < 256 → ltb (less b 0xC2) 0x2E ≡ is_within 0xC2 0xF0 b
begins_is b h = agree_below_at (λ x. ltb (less x 0xC2) 0x2E) (is_within 0xC2 0xF0) 256 b refl h

-- ---- the bytes before those of the first block of a text

-- a block after n zeros, d places back
pub after_zeros : (bytes : List ℕ) (n d i : ℕ) → d ≤ n → i < n → n ≤ length bytes → get_or (replicate n 0 ++ chunk 0 n bytes) (n - d + i) 0 ≡ get_or (replicate d 0 ++ bytes) i 0
after_zeros bytes n d i few h room = grind (arith, common_steps, cases_lt, left, length-replicate, right, get_or_append_left, get_or-replicate, get_or-append-add, get_or-chunk)

-- the first block, d places back
pub first_back : (bytes : List ℕ) (n d i : ℕ) → d ≤ n → i < n → n ≤ length bytes → get_or (pick_l 0 (replicate n 0 ++ chunk 0 n bytes) (range_with_len (n - d) n)) i 0 ≡ get_or (replicate d 0 ++ bytes) i 0
first_back bytes n d i few h room = grind (arith, common_steps, length-append, length-replicate, length-chunk, pick_l-range_with_len, get_or-chunk, after_zeros)

pub ruleset lane_steps = (common_steps, masked, zip2_splat, zip2_splat_left)

-- ---- texts in which no byte is a fault after the two before it are UTF-8

one_of_none : (a b : Bool) → is_one_of a b ≡ false → a ≡ b
one_of_none true true h = refl
one_of_none true false h = absurd (cc)
one_of_none false true h = absurd (cc)
one_of_none false false h = refl

-- what it says of b that it is no fault after y and z
record Fine (y z b : ℕ) : Type 0 where
  pub short : z < 0xF0
  pub begins : (z < 0xC0) ⊎ (0xC2 ≤ z)
  pub continues : (IsContinuation b × ((0xC0 ≤ z) ⊎ (0xE0 ≤ y))) ⊎ (((b < 0x80) ⊎ (0xC0 ≤ b)) × ((z < 0xC0) × (y < 0xE0)))
  pub overlong : (0xA0 ≤ b) ⊎ (z ≡ 0xE0 → ⊥)
  pub surrogate : (b < 0xA0) ⊎ (z ≡ 0xED → ⊥)

-- what begins a character is below F0, and from C2 on
begins_from : (z : ℕ) → is_within 0xC2 0xF0 z ≡ nat_le 0xC0 z → (z < 0xF0) × ((z < 0xC0) ⊎ (0xC2 ≤ z))
begins_from z h = (grind (arith, nat_tests), grind (arith, nat_tests))

continues_from : (y z b : ℕ) → is_within 0x80 0xC0 b ≡ (is_within 0xC2 0xF0 z || nat_le 0xE0 y) → is_within 0xC2 0xF0 z ≡ nat_le 0xC0 z
    → (IsContinuation b × ((0xC0 ≤ z) ⊎ (0xE0 ≤ y))) ⊎ (((b < 0x80) ⊎ (0xC0 ≤ b)) × ((z < 0xC0) × (y < 0xE0)))
continues_from y z b h g = grind (arith, nat_tests)

-- E0 and ED, each with the bytes that may follow it
out_from : (z b : ℕ) → (z == cond (nat_lt b 0xA0) 0xE0 0xED) ≡ false → ((0xA0 ≤ b) ⊎ (z ≡ 0xE0 → ⊥)) × ((b < 0xA0) ⊎ (z ≡ 0xED → ⊥))
out_from z b h = grind (arith, common_steps, cases_lt)

fine_from : (y z b : ℕ) → is_fault y z b ≡ false → Fine y z b
fine_from y z b h = grind (arith, common_steps, or_parts, one_of_none, begins_from, continues_from, out_from)

-- where no character has four bytes, a byte may follow the three before it just by these rules
step_from : (x y z b : ℕ) → x < 0xF0 → Fine x y z → Fine y z b → y < 0xF0 → Step x y z b
step_from x y z b low f g low-y = grind (arith, common_steps, cases_lt, least_is, most_is)

-- where all bytes but the last have a bound, and the last has a lower one, so has each
low_by : (bs : List ℕ) (most : ℕ) → 0xC0 ≤ most → get_or (0 ∷ bs) (length bs) 0 < 0xC0 → ((i : ℕ) → suc i < length bs → get_or bs i 0 < most) → (i : ℕ) → get_or bs i 0 < most
low_by bs most from last before i = grind (arith, common_steps, cases_order, get_or_past)

module _ (bs : List ℕ) (all : AreFine 0 (length bs) bs) (last : get_or (0 ∷ bs) (length bs) 0 < 0xC0) where
  low_at : (i : ℕ) → get_or bs i 0 < 0xF0
  low_at = low_by bs 0xF0 (omega arith) last (λ i l. (fine_from (get_or (0 ∷ bs) i 0) (get_or bs i 0) (get_or bs (suc i) 0) (all (suc i) (omega arith) l)).short)

  low_before : (i : ℕ) → (get_or (0 ∷ 0 ∷ 0 ∷ bs) i 0 < 0xF0) × (get_or (0 ∷ 0 ∷ bs) i 0 < 0xF0)
  low_before zero = (omega arith, omega arith)
  low_before (suc zero) = (omega arith, omega arith)
  low_before (suc (suc zero)) = (omega arith, low_at 0)
  low_before (suc (suc (suc i))) = (low_at i, low_at (suc i))

  fine_before : (i : ℕ) → i < length bs → Fine (get_or (0 ∷ 0 ∷ 0 ∷ bs) i 0) (get_or (0 ∷ 0 ∷ bs) i 0) (get_or (0 ∷ bs) i 0)
  fine_before zero h = fine_from 0 0 0 refl
  fine_before (suc i) h = fine_from _ _ _ (all i (omega arith) (omega arith))

  steps : Steps 0 0 0 bs
  steps = (Steps_by_index 0 0 0 bs).1 (λ i h. step_from _ _ _ _ (low_before i).0 (fine_before i h) (fine_from _ _ _ (all i (omega arith) h)) (low_before i).1)

closed_end : (x y z : ℕ) (bs : List ℕ) → get_or (x ∷ y ∷ z ∷ bs) (length bs) 0 < 0xF0 → get_or (y ∷ z ∷ bs) (length bs) 0 < 0xE0 → get_or (z ∷ bs) (length bs) 0 < 0xC0 → At IsClosed (last_three x y z bs)
closed_end x y z [] p q r = (p, q, r)
closed_end x y z (b ∷ bs) p q r = closed_end y z b bs p q r

closed_utf8 : (bs : List ℕ) → AreFine 0 (length bs) bs → get_or (0 ∷ 0 ∷ bs) (length bs) 0 < 0xE0 → get_or (0 ∷ bs) (length bs) 0 < 0xC0 → IsUtf8 bs
closed_utf8 bs all p q = (StepsThen-IsUtf8 bs).0 ((StepsThen_parts IsClosed 0 0 0 bs).1 (steps bs all q, closed_end 0 0 0 bs (low_before bs all q (length bs)).0 p q))

-- the byte before a place, where there is one
pub behind : (x : ℕ) (bs : List ℕ) (i : ℕ) → 1 ≤ i → get_or (x ∷ bs) i 0 ≡ get_or bs (i - 1) 0
behind x bs zero h = absurd (omega arith)
behind x bs (suc i) h = let place : i ≡ suc i - 1 = omega arith in ap (λ k. get_or bs k 0) place

-- and the one before that
pub behind_two : (x y : ℕ) (bs : List ℕ) (i : ℕ) → 2 ≤ i → get_or (x ∷ y ∷ bs) i 0 ≡ get_or bs (i - 2) 0
behind_two x y bs i h = let place : i - 1 - 1 ≡ i - 2 = omega arith in behind x (y ∷ bs) i (omega arith) ∙ behind y bs (i - 1) (omega arith) ∙ ap (λ k. get_or bs k 0) place

-- a text of characters of up to three bytes
pub fine_utf8 : (bs : List ℕ) → 2 ≤ length bs → AreFine 0 (length bs) bs → (get_or bs (length bs - 2) 0 < 0xE0) × (get_or bs (length bs - 1) 0 < 0xC0) → IsUtf8 bs
fine_utf8 bs some fine end = closed_utf8 bs fine (subst (λ b. b < 0xE0) (sym (behind_two 0 0 bs (length bs) some)) end.0) (subst (λ b. b < 0xC0) (sym (behind 0 bs (length bs) (omega arith))) end.1)

-- a byte after which one is not unpaired begins no character of three bytes
short_from : (z b : ℕ) → is_unpaired z b ≡ false → z < 0xE0
short_from z b h = grind (arith, common_steps, one_of_none, or_parts)

not_out : (t : Bool) (z : ℕ) → z < 0xE0 → (z == cond t 0xE0 0xED) ≡ false
not_out true z h = grind (arith, nat_tests)
not_out false z h = grind (arith, nat_tests)

either_none : (a b : Bool) → a ≡ false → b ≡ false → (a || b) ≡ false
either_none true b p q = absurd (cc)
either_none false b p q = q

-- after bytes below E0, one that is not unpaired is no fault
paired_fine : (y z b : ℕ) → y < 0xE0 → z < 0xE0 → is_unpaired z b ≡ false → is_fault y z b ≡ false
paired_fine y z b p q h = grind (arith, common_steps, or_parts, either_none, not_out)

-- a text of characters of up to two bytes
pub short_utf8 : (bs : List ℕ) → 0 < length bs → ArePaired 1 (length bs) bs → (is_unpaired 0 (get_or bs 0 0) ≡ false) × (get_or bs (length bs - 1) 0 < 0xC0) → IsUtf8 bs
short_utf8 bs some paired ends =
    let last = subst (λ b. b < 0xC0) (sym (behind 0 bs (length bs) (omega arith))) ends.1 in
    let pair : (i : ℕ) → suc i < length bs → is_unpaired (get_or bs i 0) (get_or bs (suc i) 0) ≡ false =
    λ i h. subst (λ z. is_unpaired z (get_or bs (suc i) 0) ≡ false) (sym (behind 0 bs (suc i) (omega arith))) (paired (suc i) (omega arith) h) in
    let low : (i : ℕ) → get_or bs i 0 < 0xE0 = low_by bs 0xE0 (omega arith) last (λ i h. short_from (get_or bs i 0) (get_or bs (suc i) 0) (pair i h)) in
    let low-after : (i : ℕ) → get_or (0 ∷ bs) i 0 < 0xE0 = elim [ zero ↦ omega arith | suc i ↦ low i ] in
    let low-later : (i : ℕ) → get_or (0 ∷ 0 ∷ bs) i 0 < 0xE0 = elim [ zero ↦ omega arith | suc i ↦ low-after i ] in
    let all : (i : ℕ) → i < length bs → is_fault (get_or (0 ∷ 0 ∷ bs) i 0) (get_or (0 ∷ bs) i 0) (get_or bs i 0) ≡ false = elim [
      | zero ↦ λ h. paired_fine 0 0 (get_or bs 0 0) (omega arith) (omega arith) ends.0
      | suc i ↦ λ h. paired_fine (get_or (0 ∷ bs) i 0) (get_or bs i 0) (get_or bs (suc i) 0) (low-after i) (low i) (pair i h)
    ] in
    closed_utf8 bs (λ i _ h. all i h) (low-later (length bs)) last

-- ---- blocks of a text, one after the other

-- a block after others, or one that has bytes in common with them
pub joined : (P : ℕ → Type 0) (from mid at to : ℕ) → at ≤ mid → ((k : ℕ) → from ≤ k → k < mid → P k) → ((k : ℕ) → at ≤ k → k < to → P k) → (k : ℕ) → from ≤ k → k < to → P k
joined P from mid at to near a b k after before = elim (cases_lt k mid) [ inl front ↦ a k after front | inr back ↦ b k (omega arith) before ]

-- no byte of the first block is a fault where none is after the bytes of the lanes before
pub first_fine : (bytes : List ℕ) (n : ℕ) → 2 ≤ n → n ≤ length bytes
    → ((k : ℕ) → k < n → is_fault (get_or (pick_l 0 (replicate n 0 ++ chunk 0 n bytes) (range_with_len (n - 2) n)) k 0) (get_or (pick_l 0 (replicate n 0 ++ chunk 0 n bytes) (range_with_len (n - 1) n)) k 0) (get_or (chunk 0 n bytes) k 0) ≡ false)
    → AreFine 0 n bytes
first_fine bytes n some room none k from to =
    let place : 0 + k ≡ k = omega arith in
    let b : get_or (chunk 0 n bytes) k 0 ≡ get_or bytes k 0 = get_or-chunk 0 n bytes k 0 to ∙ ap (λ j. get_or bytes j 0) place in
    sym (λ j. is_fault (first_back bytes n 2 k some to room j) (first_back bytes n 1 k (omega arith) to room j) (b j)) ∙ none k to
