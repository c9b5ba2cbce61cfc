-- Masks of the elements that have another weight than the common one at a level.
use Rattle.uca_key.proofs.Common.{◌≡◌, ◌⊎◌, inl, inr, count_ones, slice_index, ℕ, suc, zero, ◌+◌, ◌*◌, ◌-◌, ◌/◌, ◌%◌, ◌^◌, ◌<◌, ◌≤◌, ◌==◌, Bool, true, false, cond, not, ◌&&◌, ◌||◌, if◌then◌else◌, List, [], ◌∷◌, ◌++◌, drop, take, get_or, length, map, min, refl, sym, ap, ap₂, ◌∙◌, arith, subst, drop_all, drop_more, get_or-drop, get_or-map, get_or-take, length-drop, length-map, length-take, map-append, mod-pow-add, mod_below, ones-le, ones_cat, pow-add, pow_pos, and_parts, cases_lt, nat_tests, bit_mask_l, chunk-drop, length-chunk, mask_l-lt, chunk, mask_l, Element, Variable, level_weights, AreMarked, is_blank, is_other, common_weight, runs_after, all_own, own_weights, common_steps}
use Rattle.std.proofs.Math.Bool.{or-false}
use Rattle.std.proofs.lemmas.Nat.Bits.{bit_at-lt, bit_at-zero, bit_at-trailing_zeros}
use Rattle.std.proofs.Math.Nat.{div-div-eq-div-mul, mul_assoc}
use Rattle.std.proofs.Math.Pow.{pow_mono}
use Rattle.std.specs.Int.{bit_at, trailing_zeros, w64}
use mir.Val.{bool_byte}
use Rattle.uca_key.specs.declared.runs.Marked.{Marked}
use Rattle.uca_key.proofs.PlacingLemmas.{IsPutting-more, IsPutting-start}
use Rattle.uca_key.proofs.RunsLemmas.{blank-step, run-step}
use Rattle.uca_key.proofs.WeighingLemmas.{own-read}

-- an element that stands for none
pub blank : Element
blank = record { starred = false; l1 = 0; l2 = 0; l3 = 0 }

-- the bits of a number that was shifted
bit_at-shifted : (m n i : ℕ) → bit_at (m / 2 ^ n / 2) i ≡ bit_at m (n + 1 + i)
bit_at-shifted m n i = grind (arith, common_steps, div-div-eq-div-mul, pow-add)

bit-cases : (m n : ℕ) → (bit_at m n ≡ 0) ⊎ (bit_at m n ≡ 1)
bit-cases m n = elim (cases_lt (bit_at m n) 1) [ inl low ↦ inl (omega arith) | inr high ↦ inr (omega (arith, bit_at-lt m n)) ]

-- the bits below the lowest 1 of a mask
pub low-zeros : (m n i : ℕ) → m < 2 ^ 64 → n ≤ trailing_zeros w64 m → i < n → bit_at m i ≡ 0
low-zeros zero n i small within below = bit_at-zero i
low-zeros (suc m) n i small within below = (bit_at-trailing_zeros w64 (suc m) (omega arith) small).2 i (omega arith)

-- after elements that are taken, and one more
pub marked-after : (v : Variable) (level n : ℕ) (m k : Marked) (es : List Element) → n < length es → k.others ≡ m.others / 2 ^ n / 2 → k.blanks ≡ m.blanks / 2 ^ n / 2 → AreMarked v level m es → AreMarked v level k (drop (n + 1) es)
marked-after v level n m k es within others blanks marked = record {
  common = λ i d inside no_other no_blank.
      ap (is_other v level) (get_or-drop (n + 1) es i d)
      ∙ marked.common (n + 1 + i) d (omega (arith, length-drop (n + 1) es)) (sym (bit_at-shifted m.others n i) ∙ ap (λ (x : ℕ). bit_at x i) (sym others) ∙ no_other) (sym (bit_at-shifted m.blanks n i) ∙ ap (λ (x : ℕ). bit_at x i) (sym blanks) ∙ no_blank);
  blank = λ i d inside is.
      ap (λ e. slice_index (own_weights v e) (level - 1)) (get_or-drop (n + 1) es i d)
      ∙ marked.blank (n + 1 + i) d (omega (arith, length-drop (n + 1) es)) (sym (bit_at-shifted m.blanks n i) ∙ ap (λ (x : ℕ). bit_at x i) (sym blanks) ∙ is);
}

-- of elements that are among others at the same places
marked-among : (v : Variable) (level : ℕ) (m : Marked) (es fs : List Element) → ((i : ℕ) (d : Element) → i < length fs → (get_or fs i d ≡ get_or es i d) × (i < length es)) → AreMarked v level m es → AreMarked v level m fs
marked-among v level m es fs among marked = record {
  common = λ i d inside no_other no_blank. ap (is_other v level) (among i d inside).0 ∙ marked.common i d (among i d inside).1 no_other no_blank;
  blank = λ i d inside is. ap (λ e. slice_index (own_weights v e) (level - 1)) (among i d inside).0 ∙ marked.blank i d (among i d inside).1 is;
}

-- of fewer elements
pub marked-front : (v : Variable) (level : ℕ) (m : Marked) (k n : ℕ) (es : List Element) → k ≤ n → AreMarked v level m (take n es) → AreMarked v level m (take k es)
marked-front v level m k n es within = grind (arith, common_steps, marked-among, get_or-take, length-take)

pub marked-fewer : (v : Variable) (level : ℕ) (m : Marked) (n : ℕ) (es : List Element) → AreMarked v level m es → AreMarked v level m (take n es)
marked-fewer v level m n es = marked-among v level m es (take n es) (λ i d inside. (get_or-take n es i d (omega (arith, length-take n es)), omega (arith, length-take n es)))

-- what a front of a front has at a place
front-of-front : (m n : ℕ) (es : List Element) (i : ℕ) (d : Element) → i < m → i < n → get_or (take m (take n es)) i d ≡ get_or es i d
front-of-front m n es i d first second = get_or-take m (take n es) i d first ∙ get_or-take n es i d second

-- of the elements that a text has in a room, as many of the first as a mask has bits for
pub marked-held : (v : Variable) (level : ℕ) (m : Marked) (first whole held : ℕ) (room : List Element) → first ≡ min held 64 → first ≤ whole → AreMarked v level m (take 64 (take whole room)) → AreMarked v level m (take 64 (take held room))
marked-held v level m first whole held room few within =
    let front : (n : ℕ) → length (take 64 (take n room)) ≡ min 64 (min n (length room)) = λ n. length-take 64 (take n room) ∙ ap (min 64) (length-take n room) in
    marked-among v level m (take 64 (take whole room)) (take 64 (take held room)) (λ i d inside.
    let below : i < min 64 (min held (length room)) = omega (arith, inside, front held) in
    (front-of-front 64 held room i d (omega (arith, below)) (omega (arith, below)) ∙ sym (front-of-front 64 whole room i d (omega (arith, below)) (omega (arith, below, few, within))), omega (arith, below, few, within, front whole)))

no-bit : (b : Bool) → cond {A = ℕ} b 1 0 ≡ 0 → b ≡ false
no-bit true e = absurd (omega arith)
no-bit false e = refl

-- the bit of an element
bit-of : (p : Element → Bool) (es : List Element) (i : ℕ) (d : Element) → i < length es → bit_at (mask_l (map p es)) i ≡ cond {A = ℕ} (p (get_or es i d)) 1 0
bit-of p es i d inside = bit_mask_l (map p es) i ∙ ap (λ b. cond {A = ℕ} b 1 0) (get_or-map p es i d false inside)

-- the mask that has a bit for each element, where none is blank
pub others-marked : (v : Variable) (level : ℕ) (es : List Element) (m : Marked) → m.others ≡ mask_l (map (is_other v level) es) → m.blanks ≡ 0 → AreMarked v level m es
others-marked v level es m is none = record {
  common = λ i d inside no_other no_blank. no-bit _ (sym (bit-of (is_other v level) es i d inside) ∙ sym (ap (λ (x : ℕ). bit_at x i) is) ∙ no_other);
  blank = λ i d inside some. absurd (let no : bit_at m.blanks i ≡ 0 = ap (λ (x : ℕ). bit_at x i) none ∙ bit_at-zero i in omega (arith, no, some));
}

yes-bit : (b : Bool) → cond {A = ℕ} b 1 0 ≡ 1 → b ≡ true
yes-bit true e = refl
yes-bit false e = absurd (omega arith)

parted : (a b : Bool) → (b ≡ true → a ≡ true) → cond {A = ℕ} a 1 0 ≡ cond b 1 0 + cond (a && not b) 1 0
parted true true h = refl
parted true false h = refl
parted false true h = absurd (let e : false ≡ true = h refl in cc)
parted false false h = refl

-- a mask of elements of which some are in another one, and the mask of the others
mask-parts : (p q : Element → Bool) → ((e : Element) → q e ≡ true → p e ≡ true) → (es : List Element) → mask_l (map p es) ≡ mask_l (map q es) + mask_l (map (λ e. p e && not (q e)) es)
mask-parts p q within [] = refl
mask-parts p q within (e ∷ es) = let later = mask-parts p q within es in let here = parted (p e) (q e) (within e) in omega (arith, later, here)

only-other : (a b : Bool) → (a && not b) ≡ false → b ≡ false → a ≡ false
only-other true true h none = absurd (cc)
only-other true false h none = h
only-other false b h none = refl

-- the masks of those that are other ones, and of those among them that are blank
pub parts-marked : (v : Variable) (level : ℕ) (blank : Element → Bool) (es : List Element) (m : Marked) (others : ℕ) → ((e : Element) → blank e ≡ true → (is_other v level e ≡ true) × (slice_index (own_weights v e) (level - 1) ≡ 0))
    → others ≡ mask_l (map (is_other v level) es) → m.blanks ≡ mask_l (map blank es) → m.others ≡ others - m.blanks → AreMarked v level m es
parts-marked v level blank es m others blanks whole none left =
    let both : Element → Bool = λ e. is_other v level e && not (blank e) in
    let parts = mask-parts (is_other v level) blank (λ e is. (blanks e is).0) es in
    let rest : m.others ≡ mask_l (map both es) = omega (arith, parts, whole, none, left) in
    record {
      common = λ i d inside no_other no_blank.
          only-other _ _ (no-bit _ (sym (bit-of both es i d inside) ∙ sym (ap (λ (x : ℕ). bit_at x i) rest) ∙ no_other)) (no-bit _ (sym (bit-of blank es i d inside) ∙ sym (ap (λ (x : ℕ). bit_at x i) none) ∙ no_blank));
      blank = λ i d inside some. (blanks _ (yes-bit _ (sym (bit-of blank es i d inside) ∙ sym (ap (λ (x : ℕ). bit_at x i) none) ∙ some))).1;
    }

-- blanks are not among the others
pub blanks-fewer : (v : Variable) (level : ℕ) (blank : Element → Bool) (es : List Element) (others none : ℕ) → ((e : Element) → blank e ≡ true → (is_other v level e ≡ true) × (slice_index (own_weights v e) (level - 1) ≡ 0)) → others ≡ mask_l (map (is_other v level) es) → none ≡ mask_l (map blank es) → none ≤ others
blanks-fewer v level blank es others none blanks whole is = let parts = mask-parts (is_other v level) blank (λ e is. (blanks e is).0) es in omega (arith, parts, whole, is)

-- an element without a weight at the levels 2 and 3
both-zero : (asked : Bool) (e : Element) → is_blank asked e ≡ true → (e.l2 ≡ 0) × (e.l3 ≡ 0)
both-zero asked e is = grind (arith, common_steps, and_parts)

pub blank-second : (v : Variable) (asked : Bool) (e : Element) → is_blank asked e ≡ true → (is_other v 2 e ≡ true) × (slice_index (own_weights v e) 1 ≡ 0)
blank-second v asked e is = let none = (both-zero asked e is).0 in (ap (λ (w : ℕ). not (w == 32)) none, none)

pub blank-third : (v : Variable) (asked : Bool) (e : Element) → is_blank asked e ≡ true → (is_other v 3 e ≡ true) × (slice_index (own_weights v e) 2 ≡ 0)
blank-third v asked e is = let none = (both-zero asked e is).1 in (ap (λ (w : ℕ). not (w == 2)) none, none)

-- both weights in one number
pub blank-weights : (a b : ℕ) → (a + 65536 * b == 0) ≡ ((a == 0) && (b == 0))
blank-weights a b = grind (arith, nat_tests)

-- the mask of weights of which nothing is asked
pub nothing-asked : (weights : List ℕ) → 0 ≡ mask_l (map (λ (w : ℕ). false && (w == 0)) weights)
nothing-asked [] = refl
nothing-asked (w ∷ ws) = omega (arith, nothing-asked ws)

is-common : (a b : ℕ) → not (a == b) ≡ false → a ≡ b
is-common a b same = grind (arith, nat_tests)

-- the blank ones among one more of the first elements
ones-more : (m n : ℕ) → count_ones (m % 2 ^ (n + 1)) ≡ bit_at m n + count_ones (m % 2 ^ n)
unfolding lib.Count.ones
ones-more m n =
    let low : m % 2 ^ n < 2 ^ n = mod_below m (2 ^ n) (pow_pos n) in
    let split : m % 2 ^ (n + 1) ≡ bit_at m n * 2 ^ n + m % 2 ^ n = ap (λ (k : ℕ). m % 2 ^ k) (omega arith) ∙ mod-pow-add m 1 n in
    ap count_ones split ∙ ones_cat n (bit_at m n) (m % 2 ^ n) low ∙ ap (λ (k : ℕ). k + count_ones (m % 2 ^ n)) (one-bit (bit_at m n) (mod_below (m / 2 ^ n) 2 (omega arith)))
  where
    one-bit : (b : ℕ) → b < 2 → count_ones b ≡ b
    one-bit zero h = refl
    one-bit (suc zero) h = refl
    one-bit (suc (suc b)) h = absurd (omega arith)

pub ones-few : (m n : ℕ) → count_ones (m % 2 ^ n) ≤ n
ones-few m n = ones-le n (m % 2 ^ n) (mod_below m (2 ^ n) (pow_pos n))

-- common weights that are counted together, without elements that have none
pub run-counted : (v : Variable) (level run : ℕ) (m : Marked) (n : ℕ) (es : List Element) (d : Element) (ws : List ℕ) → AreMarked v level m es → run + n < 62 → n ≤ length es → ((i : ℕ) → i < n → bit_at m.others i ≡ 0)
    → runs_after (common_weight level) (run + (n - count_ones (m.blanks % 2 ^ n))) (level_weights level (all_own v (drop n es)) ++ ws) ≡ runs_after (common_weight level) run (level_weights level (all_own v es) ++ ws)
run-counted v level run m zero es d ws marked few within zeros = ap (λ k. runs_after (common_weight level) k (level_weights level (all_own v es) ++ ws)) (omega arith)
run-counted v level run m (suc n) es d ws marked few within zeros =
    let more : n + 1 ≡ suc n = omega arith in
    let weights : ℕ → List ℕ = λ k. level_weights level (all_own v (drop k es)) ++ ws in
    let count : ℕ → ℕ = λ k. run + (k - count_ones (m.blanks % 2 ^ k)) in
    let before : runs_after (common_weight level) (count n) (weights n) ≡ runs_after (common_weight level) run (level_weights level (all_own v es) ++ ws) = run-counted v level run m n es d ws marked (omega (arith, few)) (omega (arith, within)) (λ i below. zeros i (omega (arith, below))) in
    let ones = ones-more m.blanks n in let fewer = ones-few m.blanks n in
    subst (λ k. runs_after (common_weight level) (count k) (weights k) ≡ runs_after (common_weight level) run (level_weights level (all_own v es) ++ ws)) more
    (elim (bit-cases m.blanks n) [
      | inl none ↦
          ap (λ (k : ℕ). runs_after (common_weight level) k (weights (n + 1))) (omega (arith, ones, fewer, none))
          ∙ run-step v level (count n) n es d ws (omega (arith, few, fewer)) (omega (arith, within)) (is-common _ _ (marked.common n d (omega (arith, within)) (zeros n (omega arith)) none)) refl
          ∙ before
      | inr blank ↦
          ap (λ (k : ℕ). runs_after (common_weight level) k (weights (n + 1))) (omega (arith, ones, fewer, blank))
          ∙ ap (runs_after (common_weight level) (count n)) (blank-step v level n es d ws (omega (arith, within)) (marked.blank n d (omega (arith, within)) blank))
          ∙ before
    ])

-- ---- masks that are put together
pub mask-append : (xs ys : List Bool) → mask_l (xs ++ ys) ≡ mask_l xs + 2 ^ length xs * mask_l ys
mask-append [] ys = omega arith
mask-append (x ∷ xs) ys = grind (arith, common_steps, pow-add, mul_assoc, mask-append xs ys)

-- the mask of no elements
pub mask-none : (p : Element → Bool) (n : ℕ) (es : List Element) → length es ≤ n → 0 ≡ mask_l (map p (drop n es))
mask-none p n es none = ap (λ l. mask_l (map p l)) (sym (drop_all n es none))

-- a block before those whose mask is known
pub mask-block : (p : Element → Bool) (i : ℕ) (es : List Element) (m b : ℕ) → i + 16 ≤ length es → m ≡ mask_l (map p (drop (i + 16) es)) → b ≡ mask_l (map p (chunk i 16 es)) → 65536 * m + b ≡ mask_l (map p (drop i es))
mask-block p i es m b within later block =
    let first : List Bool = map p (chunk i 16 es) in let rest : List Bool = map p (drop (i + 16) es) in
    let long : length first ≡ 16 = length-map (chunk i 16 es) p ∙ length-chunk i 16 es within in
    let split : mask_l (map p (drop i es)) ≡ mask_l first + 2 ^ length first * mask_l rest = ap (λ l. mask_l (map p l)) (chunk-drop i 16 es) ∙ ap mask_l (map-append p (chunk i 16 es) (drop (i + 16) es)) ∙ mask-append first rest in
    omega (arith, later, block) ∙ sym (split ∙ ap (λ (n : ℕ). mask_l first + 2 ^ n * mask_l rest) long)

-- an element before those whose mask is known
pub mask-one : (p : Element → Bool) (i : ℕ) (es : List Element) (d : Element) (m : ℕ) → i < length es → m ≡ mask_l (map p (drop (i + 1) es)) → 2 * m + cond (p (get_or es i d)) 1 0 ≡ mask_l (map p (drop i es))
mask-one p i es d m within later = omega (arith, later) ∙ ap (λ l. mask_l (map p l)) (sym (drop_more es i d within))

-- a block of sixteen is left
pub block : (n : ℕ) → 0 < n → n % 16 ≡ 0 → 16 ≤ n
block n some whole = omega (arith, some, whole)

-- so a mask of fewer elements than bits has room for one more
pub mask-small : (p : Element → Bool) (es : List Element) (m k : ℕ) → length es ≤ k → m ≡ mask_l (map p es) → m < 2 ^ k
mask-small p es m k few is = omega (arith, is, mask_l-lt (map p es), length-map es p, pow_mono {i = length (map p es)} {j = k} (omega (arith, length-map es p)))

pub bit-is : (b : Bool) → bool_byte b ≡ cond b 1 0
bit-is true = refl
bit-is false = refl

-- the mask of the first elements from one before those whose mask is known
pub mask-before : (v : Variable) (level n : ℕ) (es : List Element) (d : Element) (m : ℕ) (other : Bool) → 0 < n → n ≤ min (length es) 64 → m ≡ mask_l (map (is_other v level) (drop n (take 64 es))) → other ≡ is_other v level (get_or es (n - 1) d)
    → 2 * m + bool_byte other ≡ mask_l (map (is_other v level) (drop (n - 1) (take 64 es)))
mask-before v level n es d m other some within later is =
    let i : ℕ = n - 1 in let first : List Element = take 64 es in
    let next : n ≡ i + 1 = omega (arith, some) in
    let below : i < length first = omega (arith, some, within, length-take 64 es) in
    let own : other ≡ is_other v level (get_or first i d) = is ∙ ap (is_other v level) (sym (get_or-take 64 es i d (omega (arith, below, length-take 64 es)))) in
    ap (λ (b : ℕ). 2 * m + b) (bit-is _ ∙ ap (λ b. cond {A = ℕ} b 1 0) own) ∙ mask-one (is_other v level) i first d m below (later ∙ ap (λ k. mask_l (map (is_other v level) (drop k first))) next)

-- whether the weight at the fourth level is another one than the common one, where a variable element shows its first weight
pub fourth-other : (starred ignorable : Bool) (first : ℕ) → ((starred && not (first == 65535)) || (not starred && ignorable)) ≡ not ((if starred then first else if ignorable then 0 else 65535) == 65535)
fourth-other true ignorable first = or-false (not (first == 65535))
fourth-other false true first = refl
fourth-other false false first = refl

-- ---- the lanes of a block

abbrev pub differ : ℕ → ℕ → Bool
differ a b = not (a == b)

pub map-same : (f g : ℕ → ℕ) → ((x : ℕ) → f x ≡ g x) → (xs : List ℕ) → map f xs ≡ map g xs
map-same f g same [] = refl
map-same f g same (x ∷ xs) = ap₂ (λ a b. a ∷ b) (same x) (map-same f g same xs)

-- what a test says of weights of elements, as of the elements
pub tests-of-weights : (weight : Element → ℕ) (f : ℕ → Bool) (p : Element → Bool) → ((e : Element) → f (weight e) ≡ p e) → (es : List Element) → map f (map weight es) ≡ map p es
tests-of-weights weight f p same [] = refl
tests-of-weights weight f p same (e ∷ es) = ap₂ (λ a b. a ∷ b) (same e) (tests-of-weights weight f p same es)

-- the mask from a block on, by the weights of its elements at a level
pub mask-lanes : (p : Element → Bool) (weight : Element → ℕ) (f : ℕ → Bool) → ((e : Element) → f (weight e) ≡ p e) → (n : ℕ) (es : List Element) (m b : ℕ) (lanes : List ℕ)
    → 16 ≤ n → n ≤ length es → m ≡ mask_l (map p (drop n es)) → lanes ≡ map weight (chunk (n - 16) 16 es) → b ≡ mask_l (map f lanes) → 65536 * m + b ≡ mask_l (map p (drop (n - 16) es))
mask-lanes p weight f same n es m b lanes some within later read block = grind (arith, common_steps, tests-of-weights, mask-block, block)

-- it has room for sixteen more bits
pub mask-room : (p : Element → Bool) (n : ℕ) (es : List Element) (m : ℕ) → 16 ≤ n → length es ≤ 64 → m ≡ mask_l (map p (drop n es)) → 65536 * m < 2 ^ 64
mask-room p n es m some few is = let small = mask-small p (drop n es) m 48 (omega (arith, length-drop n es)) is in omega (arith, small)

pub mask-fits : (p : Element → Bool) (weight : Element → ℕ) (f : ℕ → Bool) → ((e : Element) → f (weight e) ≡ p e) → (n : ℕ) (es : List Element) (m b : ℕ) (lanes : List ℕ)
    → 16 ≤ n → n ≤ length es → length es ≤ 64 → m ≡ mask_l (map p (drop n es)) → lanes ≡ map weight (chunk (n - 16) 16 es) → b ≡ mask_l (map f lanes) → 65536 * m + b < 2 ^ 64
mask-fits p weight f same n es m b lanes some within few later read block = mask-small p (drop (n - 16) es) _ 64 (omega (arith, length-drop (n - 16) es)) (mask-lanes p weight f same n es m b lanes some within later read block)

-- what the functions that put runs need
pub ruleset run_steps = (common_steps, own-read, fourth-other, mask-none, IsPutting-start, IsPutting-more)
