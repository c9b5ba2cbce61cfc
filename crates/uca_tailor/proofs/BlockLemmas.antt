-- Blocks of gaps that were made in a row: what one more does to them, and how far they move a weight.
use Rattle.std.proofs.Common.{◌≡◌, ℕ, zero, suc, ◌+◌, ◌-◌, ◌%◌, ◌≤◌, ◌<◌, ◌⊎◌, inl, inr, min, List, [], ◌∷◌, ◌++◌, length, take, drop, insert, refl, sym, ap, subst, ◌∙◌, arith, length-append}
use Rattle.std.proofs.lemmas.Bool.{cases_lt, lt-ltb, le-ltb}
use Rattle.std.proofs.lemmas.List.{length-take, length-drop, take_all, drop_all, drop_at, drop-append-le, take-append-le, take-append-drop, drop-drop}
use Rattle.uca_tailor.specs.Shifts.{moved, moved_at_once, bounds_with, Rise, AreBounds, AreBlocks}
use Rattle.uca_tailor.proofs.ShiftLemmas.{moved-append, moved-cut, AreBounds-none, AreBounds-with}

-- one more bound
pub length-with : (w : ℕ) (bs : List ℕ) → length (bounds_with w bs) ≡ length bs + 1
length-with w [] = refl
length-with w (b ∷ bs) = let rest : length (bounds_with (w - 1) bs) ≡ length bs + 1 = length-with (w - 1) bs in elim (cases_lt b w) [
  | inl low ↦ rw (lt-ltb b w low) (omega arith)
  | inr high ↦ rw (le-ltb b w high) (omega arith)
]

-- a block that lies in the front of a list
front-block : {A : Type 0} (size at : ℕ) (p q : List A) → at + size ≤ length p → take size (drop at (p ++ q)) ≡ take size (drop at p)
front-block size at p q h =
    ap (take size) (drop-append-le at p q (omega arith))
    ∙ take-append-le size (drop at p) q (let l : length (drop at p) ≡ length p - at = length-drop at p in omega arith)

-- one that lies at its end
back-block : {A : Type 0} (size at : ℕ) (xs : List A) → length xs ≤ at + size → take size (drop at xs) ≡ drop at xs
back-block size at xs h = take_all size (drop at xs) (let l : length (drop at xs) ≡ length xs - at = length-drop at xs in omega arith)

-- one past its end
past-block : {A : Type 0} (size at : ℕ) (xs : List A) → length xs ≤ at → take size (drop at xs) ≡ []
past-block size at xs h = ap (take size) (drop_all at xs h) ∙ take_all size [] (omega arith)

-- the bounds of the last block rise
pub last-rise : (size base : ℕ) (bounds ws : List ℕ) → base % size ≡ 0 → length ws ≤ base + size → AreBlocks size bounds ws → Rise (drop base bounds)
last-rise size base bounds ws start short are = subst Rise (back-block size base bounds (omega (arith, are.same_length))) (are.blocks base start).rise

-- the blocks with one more gap, which joins the last one
pub AreBlocks-with : (size base : ℕ) (bounds ws : List ℕ) (w : ℕ) → base % size ≡ 0 → base ≤ length ws → length ws < base + size → ((at : ℕ) → at % size ≡ 0 → (at ≡ base) ⊎ ((at + size ≤ base) ⊎ (length ws < at)))
    → AreBlocks size bounds ws → AreBlocks size (take base bounds ++ bounds_with w (drop base bounds)) (ws ++ w ∷ [])
AreBlocks-with size base bounds ws w start low high parted are =
    let front = take base bounds in
    let back = bounds_with w (drop base bounds) in
    let size_front : length front ≡ base = length-take base bounds ∙ omega (arith, are.same_length) in
    let size_back : length back ≡ length bounds - base + 1 = length-with w (drop base bounds) ∙ ap (λ n. n + 1) (length-drop base bounds) in
    let size_now : length (front ++ back) ≡ length ws + 1 = length-append front back ∙ omega (arith, size_front, size_back, are.same_length, low) in
    let size_ws : length (ws ++ w ∷ []) ≡ length ws + 1 = length-append ws (w ∷ []) in
    record {
      same_length = size_now ∙ sym size_ws;
      blocks = λ at starts. elim (parted at starts) [
        | inl last ↦
            let old : AreBounds (drop base bounds) (drop base ws) =
            subst (λ xs. AreBounds xs (drop base ws)) (back-block size base bounds (omega (arith, are.same_length, high)))
            (subst (AreBounds (take size (drop base bounds))) (back-block size base ws (omega (arith, high))) (are.blocks base start)) in
            let here : take size (drop at (front ++ back)) ≡ back = ap (λ k. take size (drop k (front ++ back))) last ∙ ap (take size) (drop_at front back base size_front) ∙ take_all size back (omega (arith, size_back, are.same_length, high, low)) in
            let there : take size (drop at (ws ++ w ∷ [])) ≡ drop base ws ++ w ∷ [] = ap (λ k. take size (drop k (ws ++ w ∷ []))) last ∙ back-block size base (ws ++ w ∷ []) (omega (arith, size_ws, high)) ∙ drop-append-le base ws (w ∷ []) low in
            subst (λ xs. AreBounds xs (take size (drop at (ws ++ w ∷ [])))) (sym here) (subst (AreBounds back) (sym there) (AreBounds-with (drop base bounds) (drop base ws) w old))
        | inr (inl before) ↦
            let here : take size (drop at (front ++ back)) ≡ take size (drop at bounds) =
            front-block size at front back (omega (arith, size_front, before)) ∙ sym (front-block size at front (drop base bounds) (omega (arith, size_front, before))) ∙ ap (λ xs. take size (drop at xs)) (take-append-drop base bounds) in
            let there : take size (drop at (ws ++ w ∷ [])) ≡ take size (drop at ws) = front-block size at ws (w ∷ []) (omega (arith, before, low)) in
            subst (λ xs. AreBounds xs (take size (drop at (ws ++ w ∷ [])))) (sym here) (subst (AreBounds (take size (drop at bounds))) (sym there) (are.blocks at starts))
        | inr (inr after) ↦
            let here : take size (drop at (front ++ back)) ≡ [] = past-block size at (front ++ back) (omega (arith, size_now, after)) in
            let there : take size (drop at (ws ++ w ∷ [])) ≡ [] = past-block size at (ws ++ w ∷ []) (omega (arith, size_ws, after)) in
            subst (λ xs. AreBounds xs (take size (drop at (ws ++ w ∷ [])))) (sym here) (subst (AreBounds []) (sym there) AreBounds-none)
      ];
    }

-- a weight that a block moved at once
pub block-moves : (level size at : ℕ) (bounds ws : List ℕ) (x y : ℕ) → at % size ≡ 0 → AreBlocks size bounds ws → y ≡ min (moved_at_once level (take size (drop at bounds)) x) 65535
    → min (moved level (drop (at + size) ws) y) 65535 ≡ min (moved level (drop at ws) x) 65535
block-moves level size at bounds ws x y start are is =
    let here : moved_at_once level (take size (drop at bounds)) x ≡ moved level (take size (drop at ws)) x = (are.blocks at start).same level x in
    moved-cut level (drop (at + size) ws) (moved level (take size (drop at ws)) x) y (is ∙ ap (λ n. min n 65535) here)
    ∙ ap (λ n. min n 65535) (sym (moved-append level (take size (drop at ws)) (drop (at + size) ws) x))
    ∙ ap (λ xs. min (moved level xs x) 65535) (ap (λ xs. take size (drop at ws) ++ xs) (sym (drop-drop size at ws)) ∙ take-append-drop size (drop at ws))

-- the places of blocks of 64 and of 4096 gaps, beside the last of them
pub parted-small : (n at : ℕ) → at % 64 ≡ 0 → (at ≡ n - n % 64) ⊎ ((at + 64 ≤ n - n % 64) ⊎ (n < at))
parted-small n at start = elim (cases_lt at (n - n % 64)) [
  | inl before ↦ inr (inl (omega arith))
  | inr from ↦ elim (cases_lt (n - n % 64) at) [ inl after ↦ inr (inr (omega arith)) | inr here ↦ inl (omega arith) ]
]

pub parted-large : (n at : ℕ) → at % 4096 ≡ 0 → (at ≡ n - n % 4096) ⊎ ((at + 4096 ≤ n - n % 4096) ⊎ (n < at))
parted-large n at start = elim (cases_lt at (n - n % 4096)) [
  | inl before ↦ inr (inl (omega arith))
  | inr from ↦ elim (cases_lt (n - n % 4096) at) [ inl after ↦ inr (inr (omega arith)) | inr here ↦ inl (omega arith) ]
]

-- a bound among those from a place on
pub insert-past : (n at v : ℕ) (xs : List ℕ) → n ≤ length xs → insert xs (n + at) v ≡ take n xs ++ insert (drop n xs) at v
insert-past zero at v xs h = let e : zero + at ≡ at = omega arith in ap (λ k. insert xs k v) e
insert-past (suc n) at v [] h = absurd (omega arith)
insert-past (suc n) at v (x ∷ xs) h = let e : suc n + at ≡ suc (n + at) = omega arith in ap (λ k. insert (x ∷ xs) k v) e ∙ ap (λ ys. x ∷ ys) (insert-past n at v xs (omega arith))

-- where a block ends that begins within the gaps
pub block-end : (level size at n : ℕ) (bounds ws : List ℕ) (x y : ℕ) → at % size ≡ 0 → AreBlocks size bounds ws → n ≡ length (take size (drop at bounds)) → y ≡ min (moved_at_once level (take size (drop at bounds)) x) 65535
    → min (moved level (drop (at + n) ws) y) 65535 ≡ min (moved level (drop at ws) x) 65535
block-end level size at n bounds ws x y start are count is =
    let long : length (drop at bounds) ≡ length bounds - at = length-drop at bounds in
    let short : length (take size (drop at bounds)) ≡ min size (length (drop at bounds)) = length-take size (drop at bounds) in
    ap (λ xs. min (moved level xs y) 65535) (ends (omega (arith, are.same_length))) ∙ block-moves level size at bounds ws x y start are is
  where
    ends : (n ≡ min size (length ws - at)) → drop (at + n) ws ≡ drop (at + size) ws
    ends e = elim (cases_lt (length ws - at) size) [
      | inl rest ↦ drop_all (at + n) ws (omega arith) ∙ sym (drop_all (at + size) ws (omega arith))
      | inr full ↦ ap (λ k. drop k ws) (let g : at + n ≡ at + size = omega arith in g)
    ]
