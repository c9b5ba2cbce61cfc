-- Bytes that are put into a buffer one piece after the other.
use Rattle.uca_key.proofs.Common.{◌≡◌, ℕ, zero, suc, ◌+◌, ◌-◌, ◌^◌, ◌≤◌, ◌<◌, List, [], ◌∷◌, ◌++◌, length, take, drop, slice_set, get_or, refl, sym, ap, ap₂, subst, ◌∙◌, arith, append_assoc, append-nil, take-append-drop, length-append, cases_lt, drop-drop, drop-set-lt, drop_all, length-drop, length-take, length-take-le, take_all, take_more_set, drop-nil, take-append_seam, take-nil, with_bytes_at, PutsAt, IsPutting, StaysAfter, StaysBeyond, common_steps}

-- no bytes change nothing
with_bytes_at-none : (n : ℕ) (buffer : List ℕ) → with_bytes_at n [] buffer ≡ buffer
with_bytes_at-none n buffer = ap (λ front. take n buffer ++ (front ++ drop n buffer)) (take-nil (length (drop n buffer))) ∙ take-append-drop n buffer

-- nothing is put past the end of a buffer
with_bytes_at-past : (n : ℕ) (bytes buffer : List ℕ) → length buffer ≤ n → with_bytes_at n bytes buffer ≡ buffer
with_bytes_at-past n bytes buffer past =
    ap₂ (λ front rest. front ++ (take (length rest) bytes ++ drop (length bytes) rest)) (take_all n buffer past) (drop_all n buffer past)
    ∙ ap (λ l. buffer ++ l) (drop-nil (length bytes)) ∙ append-nil buffer

pub length-with_bytes_at : (n : ℕ) (bytes buffer : List ℕ) → length (with_bytes_at n bytes buffer) ≡ length buffer
length-with_bytes_at n bytes buffer = grind (arith, common_steps, length-append, length-take, length-drop)

-- two pieces, one right after the other
with_bytes_at-more : (n : ℕ) (a b buffer : List ℕ) → with_bytes_at (n + length a) b (with_bytes_at n a buffer) ≡ with_bytes_at n (a ++ b) buffer
with_bytes_at-more n a b [] = grind (arith, common_steps, with_bytes_at-past)
with_bytes_at-more zero [] b (x ∷ xs) = refl
with_bytes_at-more zero (y ∷ ys) b (x ∷ xs) =
    let next : zero + length (y ∷ ys) ≡ suc (zero + length ys) = omega arith in
    ap (λ n. with_bytes_at n b (y ∷ with_bytes_at zero ys xs)) next ∙ ap (λ l. y ∷ l) (with_bytes_at-more zero ys b xs)
with_bytes_at-more (suc n) a b (x ∷ xs) =
    let next : suc n + length a ≡ suc (n + length a) = omega arith in
    ap (λ m. with_bytes_at m b (x ∷ with_bytes_at n a xs)) next ∙ ap (λ l. x ∷ l) (with_bytes_at-more n a b xs)

pub PutsAt-none : (at : ℕ) (buffer : List ℕ) → at < 2 ^ 64 → PutsAt at [] buffer buffer at
PutsAt-none at buffer h = record { written = sym (with_bytes_at-none at buffer); counted = omega arith }

pub PutsAt-more : (at mid next : ℕ) (a b before then after : List ℕ) → length before < 2 ^ 64 → PutsAt at a before then mid → PutsAt mid b then after next → PutsAt at (a ++ b) before after next
PutsAt-more at mid next a b before then after room h k = grind (arith, common_steps, length-append, cases_lt, with_bytes_at-more, length-with_bytes_at, with_bytes_at-past)

pub IsPutting-start : (at : ℕ) (buffer whole left : List ℕ) → at < 2 ^ 64 → left ≡ whole → IsPutting at buffer at buffer whole left
IsPutting-start at buffer whole left small same = record { put = []; puts = PutsAt-none at buffer small; parts = same }

module _ (at next : ℕ) (before now whole left : List ℕ) (h : IsPutting at before next now whole left) where
  pub IsPutting-size : length now ≡ length before
  IsPutting-size = ap length h.puts.written ∙ length-with_bytes_at at h.put before

  pub IsPutting-more : (later : ℕ) (after piece rest : List ℕ) → length before < 2 ^ 64 → left ≡ piece ++ rest → PutsAt next piece now after later → IsPutting at before later after whole rest
  IsPutting-more later after piece rest room split puts = record {
    put = h.put ++ piece;
    puts = PutsAt-more at next later h.put piece before now after room h.puts puts;
    parts = append_assoc h.put piece rest ∙ ap (λ l. h.put ++ l) (sym split) ∙ h.parts;
  }

  pub IsPutting-ends : left ≡ [] → PutsAt at whole before now next
  IsPutting-ends none = subst (λ (l : List ℕ). PutsAt at l before now next) (sym (append-nil h.put) ∙ ap (λ l. h.put ++ l) (sym none) ∙ h.parts) h.puts

-- two bytes that fit
pub pair-with_bytes_at : (n a b : ℕ) (buffer : List ℕ) → n + 2 ≤ length buffer → slice_set (slice_set buffer n a) (n + 1) b ≡ with_bytes_at n (a ∷ b ∷ []) buffer
pair-with_bytes_at n a b [] fits = absurd (omega arith)
pair-with_bytes_at zero a b (x ∷ []) fits = absurd (omega arith)
pair-with_bytes_at zero a b (x ∷ y ∷ buffer) fits = sym (ap (λ l. a ∷ b ∷ (l ++ buffer)) (take-nil (length buffer)))
pair-with_bytes_at (suc n) a b (x ∷ buffer) fits = grind (arith, common_steps, pair-with_bytes_at n a b buffer (omega arith))

pub PutsAt-pair : (at : ℕ) (pair buffer : List ℕ) → length pair ≡ 2 → at + 2 ≤ length buffer → length buffer < 2 ^ 64 → PutsAt at pair buffer (slice_set (slice_set buffer at (get_or pair 0 0)) (at + 1) (get_or pair 1 0)) (at + 2)
PutsAt-pair at [] buffer two fits small = absurd (omega arith)
PutsAt-pair at (a ∷ []) buffer two fits small = absurd (omega arith)
PutsAt-pair at (a ∷ b ∷ []) buffer two fits small = record { written = pair-with_bytes_at at a b buffer fits; counted = omega arith }
PutsAt-pair at (a ∷ b ∷ c ∷ pair) buffer two fits small = absurd (omega arith)

-- what is put at the front of a buffer, where it fits
pub record FrontPut (bytes before after : List ℕ) (next : ℕ) : Type 0 where
  pub is : take next after ≡ bytes
  pub size : next ≡ length bytes
  pub within : next ≤ length after

pub front-put : (bytes before after : List ℕ) (next : ℕ) → PutsAt 0 bytes before after next → length bytes ≤ length before → length before < 2 ^ 64 → FrontPut bytes before after next
front-put bytes before after next puts fits small =
    let same : next ≡ length bytes = omega (arith, puts.counted, fits, small) in
    let front : after ≡ bytes ++ drop (length bytes) before = puts.written ∙ ap (λ l. l ++ drop (length bytes) before) (take_all (length before) bytes fits) in
    record {
      is = ap₂ (λ (n : ℕ) (l : List ℕ). take n l) same front ∙ take-append_seam bytes (drop (length bytes) before);
      size = same;
      within = omega (arith, same, fits, ap length puts.written, length-with_bytes_at 0 bytes before);
    }

-- ---- bytes that fit, put one after the other

-- what is the same from one place on is the same from a later one on
drop-later : (m n : ℕ) (xs ys : List ℕ) → m ≤ n → drop m xs ≡ drop m ys → drop n xs ≡ drop n ys
drop-later m n xs ys h same =
    let next : n ≡ m + (n - m) = omega arith in
    ap (λ k. drop k xs) next ∙ sym (drop-drop (n - m) m xs) ∙ ap (drop (n - m)) same ∙ drop-drop (n - m) m ys ∙ ap (λ k. drop k ys) (sym next)

pub stays-beyond : (from to : ℕ) (before after : List ℕ) → StaysAfter from to before after → StaysBeyond from to before after
stays-beyond from to before after h = record { later = h.later; rest = drop-later to (to + 1) after before (omega arith) h.rest }

pub beyond-more : (from mid to : ℕ) (before then after : List ℕ) → StaysBeyond from mid before then → StaysBeyond mid to then after → StaysBeyond from to before after
beyond-more from mid to before then after h k = let later = k.later in record { later = omega (arith, h.later, k.later); rest = k.rest ∙ drop-later (mid + 1) (to + 1) then before (omega arith) h.rest }

-- all bytes of a whole, the last of which is put by itself
pub PutsAt-fitted : (from to byte : ℕ) (before after whole : List ℕ) → length after ≡ length before → length before < 2 ^ 64 → to < length before → StaysBeyond from to before after → take to after ++ byte ∷ [] ≡ take from before ++ whole
    → PutsAt from whole before (slice_set after to byte) (to + 1)
PutsAt-fitted from to byte before after whole size small within stays same =
    let later = stays.later in
    let long : to + 1 ≡ from + length whole = omega (arith, ap length same, length-append (take to after) (byte ∷ []), length-append (take from before) whole, length-take-le to after (omega arith), length-take-le from before (omega arith)) in
    let fits : length whole ≤ length (drop from before) = omega (arith, length-drop from before) in
    let rest : List ℕ = drop (length whole) (drop from before) in
    record {
      written =
          sym (take-append-drop (to + 1) (slice_set after to byte))
          ∙ ap₂ (λ a b. a ++ b) (take_more_set after to byte (omega arith) ∙ same) (drop-set-lt (to + 1) after to byte (omega arith) ∙ stays.rest ∙ ap (λ k. drop k before) long ∙ sym (drop-drop (length whole) from before))
          ∙ append_assoc (take from before) whole rest ∙ ap (λ l. take from before ++ (l ++ rest)) (sym (take_all (length (drop from before)) whole fits));
      counted = omega (arith, long);
    }
