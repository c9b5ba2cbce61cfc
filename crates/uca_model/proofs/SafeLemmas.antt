-- Lemmas on safe texts: what one more character does to the longest run, and where the characters of a text are.
use Rattle.std.proofs.Common.{◌≡◌, ℕ, suc, ◌+◌, ◌-◌, ◌≤◌, ◌<◌, max, true, cond, List, [], ◌∷◌, ◌++◌, length, take, drop, flat_map, All, if◌then◌else◌, append_assoc, length-append, encode_utf8_all, encode_utf8, refl, sym, ap, ap₂, subst, ◌∙◌, arith, inl, inr, append-nil}
use Rattle.std.proofs.lemmas.Bool.{cases_Bool, not_from_false}
use Rattle.std.proofs.lemmas.List.Concat.{flat_map-append}
use Rattle.std.proofs.lemmas.List.Elements.{All-push, All-take, All-drop, All-head}
use Rattle.std.proofs.lemmas.List.{drop_at, take_at, nil_from_length}
use Rattle.std.proofs.lemmas.Str.{encode_same, length-encode, len_utf8_bounds, encodes-append, encodes-chars, chars_from_encodes}
use Rattle.std.specs.Str.{chars, IsUtf8}
use Rattle.std.specs.Char.{len_utf8}
use Rattle.unicode_normalization.specs.Decompose.{decompose_canonical}
use Rattle.unicode_normalization.specs.Forms.{nfd, decomposed, normalize}
use Rattle.unicode_normalization.specs.Order.{is_nonstarter, is_reorderable, sink, canonical_order}
use Rattle.unicode_normalization.proofs.ComposeLemmas.{not_starter_from}
use Rattle.unicode_normalization.proofs.OrderLemmas.{is_reorderable-true, sink-past, sink-stays, sink-nil, canonical_order-cons, canonical_order-nil, length-canonical_order}
use Rattle.uca_weights.specs.declared.limits.TheConstants.{MAX_RUN, MAX_DECOMPOSITION}
use Rattle.uca_model.specs.SafeText.{longest_run_after, longest_run, IsSafe, IsLongRunAt}

-- ---- runs of code points

-- how many nonstarters are in a row at the end, where `count` come before the text
abbrev pub run_after : ℕ → List ℕ → ℕ
run_after count [] = count
run_after count (c ∷ cs) = if is_nonstarter c then run_after (count + 1) cs else run_after 0 cs

-- the longest run is no shorter than the run before the text
pub count_le : (n : ℕ) (xs : List ℕ) → n ≤ longest_run_after n xs
count_le n [] = omega arith
count_le n (c ∷ cs) = elim (cases_Bool (is_nonstarter c)) [
  | inl mark ↦ rw mark (let h : n + 1 ≤ longest_run_after (n + 1) cs = count_le (n + 1) cs in omega arith)
  | inr starter ↦ rw starter (omega arith)
]

-- a nonstarter lengthens the run before the rest
at_mark : (n c : ℕ) (cs : List ℕ) → is_nonstarter c ≡ true → longest_run_after n (c ∷ cs) ≡ longest_run_after (n + 1) cs
at_mark n c cs h = rw h refl

-- a nonstarter after a run makes a longer one
pub one_too_many : (n c : ℕ) (cs : List ℕ) → is_nonstarter c ≡ true → n < longest_run_after n (c ∷ cs)
one_too_many n c cs h = let g : n + 1 ≤ longest_run_after (n + 1) cs = count_le (n + 1) cs in let e : longest_run_after n (c ∷ cs) ≡ longest_run_after (n + 1) cs = at_mark n c cs h in omega arith

-- the longest run of two texts one after the other
pub runs-append : (n : ℕ) (xs ys : List ℕ) → longest_run_after n (xs ++ ys) ≡ max (longest_run_after n xs) (longest_run_after (run_after n xs) ys)
runs-append n [] ys = let h : n ≤ longest_run_after n ys = count_le n ys in omega arith
runs-append n (c ∷ cs) ys = elim (cases_Bool (is_nonstarter c)) [
  | inl mark ↦ rw mark (runs-append (n + 1) cs ys)
  | inr starter ↦ rw starter (let h : longest_run_after 0 (cs ++ ys) ≡ max (longest_run_after 0 cs) (longest_run_after (run_after 0 cs) ys) = runs-append 0 cs ys in omega arith)
]

-- the run at the end of two texts one after the other
pub ends-append : (n : ℕ) (xs ys : List ℕ) → run_after n (xs ++ ys) ≡ run_after (run_after n xs) ys
ends-append n [] ys = refl
ends-append n (c ∷ cs) ys = elim (cases_Bool (is_nonstarter c)) [
  | inl mark ↦ rw mark (ends-append (n + 1) cs ys)
  | inr starter ↦ rw starter (ends-append 0 cs ys)
]

-- ---- canonical order keeps the runs as long as they were

-- a code point that changes places with its neighbors
runs-sink : (n c : ℕ) (ds : List ℕ) → longest_run_after n (sink c ds) ≡ longest_run_after n (c ∷ ds)
runs-sink n c [] = ap (longest_run_after n) (sink-nil c)
runs-sink n c (d ∷ ds) =
    elim (cases_Bool (is_reorderable c d)) [
      | inr stays ↦ ap (longest_run_after n) (sink-stays c d ds stays)
      | inl past ↦
          let classes = is_reorderable-true c d past in
          let mark_d = not_from_false _ (not_starter_from d classes.0) in
          let mark_c = not_from_false _ (not_starter_from c (omega arith)) in
          ap (longest_run_after n) (sink-past c d ds past) ∙ at_mark n d _ mark_d
          ∙ runs-sink (n + 1) c ds ∙ at_mark (n + 1) c ds mark_c ∙ sym (at_mark (n + 1) d ds mark_d)
          ∙ sym (at_mark n c (d ∷ ds) mark_c)
    ]

-- two texts with the same runs have the same runs after a code point
same_after : (n c : ℕ) (xs ys : List ℕ) → ((k : ℕ) → longest_run_after k xs ≡ longest_run_after k ys) → longest_run_after n (c ∷ xs) ≡ longest_run_after n (c ∷ ys)
same_after n c xs ys h = ap₂ (λ a b. cond (is_nonstarter c) a (max n b)) (h (n + 1)) (h 0)

-- a whole text in canonical order
pub runs-canonical_order : (cs : List ℕ) (n : ℕ) → longest_run_after n (canonical_order cs) ≡ longest_run_after n cs
runs-canonical_order [] n = ap (longest_run_after n) canonical_order-nil
runs-canonical_order (c ∷ cs) n =
    ap (longest_run_after n) (canonical_order-cons c cs) ∙ runs-sink n c (canonical_order cs)
    ∙ same_after n c (canonical_order cs) cs (runs-canonical_order cs)

-- the NFD is the decompositions in canonical order
pub nfd-is : (cs : List ℕ) → nfd cs ≡ canonical_order (flat_map decompose_canonical cs)
unfolding normalize decomposed
nfd-is cs = refl

-- so its runs are those of the decompositions
pub longest_run-nfd : (cs : List ℕ) → longest_run (nfd cs) ≡ longest_run (flat_map decompose_canonical cs)
longest_run-nfd cs = ap longest_run (nfd-is cs) ∙ runs-canonical_order (flat_map decompose_canonical cs) 0

-- the NFD of a character is as long as its decomposition
pub length-nfd_one : (c : ℕ) → length (nfd (c ∷ [])) ≡ length (decompose_canonical c)
length-nfd_one c = ap length (nfd-is (c ∷ [])) ∙ length-canonical_order (flat_map decompose_canonical (c ∷ [])) ∙ ap length (append-nil (decompose_canonical c))

-- the decompositions of a text with one more character
pub parts-push : (front : List ℕ) (c : ℕ) → flat_map decompose_canonical (front ++ c ∷ []) ≡ flat_map decompose_canonical front ++ decompose_canonical c
parts-push front c = flat_map-append decompose_canonical front (c ∷ []) ∙ ap (λ xs. flat_map decompose_canonical front ++ xs) (append-nil (decompose_canonical c))

-- the longest run of the NFD of a text with one more character
pub runs-push : (front : List ℕ) (c : ℕ) → longest_run (nfd (front ++ c ∷ [])) ≡ max (longest_run (nfd front)) (longest_run_after (run_after 0 (flat_map decompose_canonical front)) (decompose_canonical c))
runs-push front c =
    longest_run-nfd (front ++ c ∷ []) ∙ ap longest_run (parts-push front c)
    ∙ runs-append 0 (flat_map decompose_canonical front) (decompose_canonical c) ∙ ap (λ n. max n (longest_run_after (run_after 0 (flat_map decompose_canonical front)) (decompose_canonical c))) (sym (longest_run-nfd front))

-- ---- safe texts

-- the NFD of a character of a safe text is short
abbrev pub IsShort : ℕ → Type 0
IsShort c = length (nfd (c ∷ [])) ≤ MAX_DECOMPOSITION

-- the empty text is safe
pub safe_none : IsSafe []
safe_none = record { runs = subst (λ n. n ≤ MAX_RUN) (sym (longest_run-nfd [])) (omega arith); short = λ k d h. absurd (omega arith) }

-- a safe text with one more character that is short, and with which the runs are, is safe
pub safe_more : (front : List ℕ) (c : ℕ) → IsSafe front → longest_run (nfd (front ++ c ∷ [])) ≤ MAX_RUN → IsShort c → IsSafe (front ++ c ∷ [])
safe_more front c safe runs short = record { runs = runs; short = All-push IsShort front c safe.short short }

-- the last character of a safe text is short
pub short_last : (front : List ℕ) (c : ℕ) → IsSafe (front ++ c ∷ []) → IsShort c
short_last front c safe =
    let last : All IsShort (c ∷ []) = subst (λ xs. All IsShort xs) (drop_at front (c ∷ []) (length front) refl) (All-drop IsShort (length front) (front ++ c ∷ []) safe.short) in
    All-head IsShort c [] last

-- a front of a safe text is safe
pub IsSafe-front : (xs ys : List ℕ) → IsSafe (xs ++ ys) → IsSafe xs
IsSafe-front xs ys safe =
    let all : longest_run (nfd (xs ++ ys)) ≡ max (longest_run (flat_map decompose_canonical xs)) (longest_run_after (run_after 0 (flat_map decompose_canonical xs)) (flat_map decompose_canonical ys))
    = longest_run-nfd (xs ++ ys) ∙ ap longest_run (flat_map-append decompose_canonical xs ys) ∙ runs-append 0 (flat_map decompose_canonical xs) (flat_map decompose_canonical ys) in
    let front : longest_run (nfd xs) ≡ longest_run (flat_map decompose_canonical xs) = longest_run-nfd xs in
    record {
      runs = omega (arith, safe.runs);
      short = subst (λ zs. All IsShort zs) (take_at xs ys (length xs) refl) (All-take IsShort (length xs) (xs ++ ys) safe.short);
    }

-- ---- where an iterator is in a text

-- the characters of a text whose bytes begin with those of some characters begin with these
pub begins : (ys xs : List ℕ) (rest : List ℕ) → encode_utf8_all xs ≡ encode_utf8_all ys ++ rest → xs ≡ ys ++ drop (length ys) xs
begins [] xs rest e = refl
begins (y ∷ ys) [] rest e =
    let long : length (encode_utf8_all (y ∷ ys) ++ rest) ≡ (length (encode_utf8 y) + length (encode_utf8_all ys)) + length rest = length-append (encode_utf8_all (y ∷ ys)) rest ∙ ap (λ n. n + length rest) (length-append (encode_utf8 y) (encode_utf8_all ys)) in
    let none : 0 ≡ length (encode_utf8_all (y ∷ ys) ++ rest) = ap length e in
    let one : length (encode_utf8 y) ≡ len_utf8 y = length-encode y in
    absurd (omega (arith, (len_utf8_bounds y).0))
begins (y ∷ ys) (x ∷ xs) rest e =
    let same = encode_same x y (encode_utf8_all xs) (encode_utf8_all ys ++ rest) (e ∙ append_assoc (encode_utf8 y) (encode_utf8_all ys) rest) in
    ap₂ (λ z zs. z ∷ zs) same.0 (begins ys xs rest same.1)

-- the bytes of the text are those of `front` and then others
abbrev pub StandsAfter : List ℕ → List ℕ → List ℕ → Type 0
StandsAfter text rest front = text ≡ encode_utf8_all front ++ rest

-- more characters were passed
pub stands_over : (text rest front cs more : List ℕ) → StandsAfter text rest front → rest ≡ encode_utf8_all cs ++ more → StandsAfter text more (front ++ cs)
stands_over text rest front cs more at is =
    at ∙ ap (λ bs. encode_utf8_all front ++ bs) is ∙ sym (append_assoc (encode_utf8_all front) (encode_utf8_all cs) more) ∙ ap (λ bs. bs ++ more) (sym (encodes-append front cs))

-- one more character was passed
pub stands_next : (text rest front : List ℕ) (c : ℕ) (more : List ℕ) → StandsAfter text rest front → rest ≡ encode_utf8 c ++ more → StandsAfter text more (front ++ c ∷ [])
stands_next text rest front c more at is = stands_over text rest front (c ∷ []) more at (is ∙ ap (λ bs. bs ++ more) (sym (append-nil (encode_utf8 c))))

-- with the next character, `front` begins the text
stands_in : (text rest front : List ℕ) (c : ℕ) (more : List ℕ) → StandsAfter text rest front → IsUtf8 text → rest ≡ encode_utf8 c ++ more → chars text ≡ (front ++ c ∷ []) ++ drop (length (front ++ c ∷ [])) (chars text)
stands_in text rest front c more at utf8 is = begins (front ++ c ∷ []) (chars text) more (encodes-chars text utf8 ∙ stands_next text rest front c more at is)

-- at the end `front` is the text
pub stands_last : (text rest front : List ℕ) → StandsAfter text rest front → IsUtf8 text → length rest ≡ 0 → front ≡ chars text
stands_last text rest front at utf8 none =
    chars_from_encodes front text utf8 (sym (append-nil (encode_utf8_all front)) ∙ ap (λ bs. encode_utf8_all front ++ bs) (sym (nil_from_length rest none)) ∙ sym at)

-- a text is not safe where some front with the next character isn't
pub unsafe_from : (text rest front : List ℕ) (c : ℕ) (more : List ℕ) → StandsAfter text rest front → IsUtf8 text → rest ≡ encode_utf8 c ++ more → ¬ (IsSafe (front ++ c ∷ [])) → ¬ (IsSafe (chars text))
unsafe_from text rest front c more at utf8 is unsafe safe =
    unsafe (IsSafe-front (front ++ c ∷ []) (drop (length (front ++ c ∷ [])) (chars text)) (subst IsSafe (stands_in text rest front c more at utf8 is) safe))

-- where a safe front and the next character aren't safe together, this character is the first with which the text isn't
pub long_run_here : (text rest front : List ℕ) (c : ℕ) (more : List ℕ) (offset : ℕ) → StandsAfter text rest front → IsUtf8 text → offset ≡ length text - length rest → rest ≡ encode_utf8 c ++ more → IsSafe front → ¬ (IsSafe (front ++ c ∷ [])) → IsLongRunAt (chars text) offset
long_run_here text rest front c more offset at utf8 o is safe unsafe =
    let all : chars text ≡ (front ++ c ∷ []) ++ drop (length (front ++ c ∷ [])) (chars text) = stands_in text rest front c more at utf8 is in
    let others = drop (length (front ++ c ∷ [])) (chars text) in
    let n = length front in
    let before : take n (chars text) ≡ front = ap (take n) (all ∙ append_assoc front (c ∷ []) others) ∙ take_at front (c ∷ others) n refl in
    let longer : length (front ++ c ∷ []) ≡ suc n = length-append front (c ∷ []) ∙ (let e : n + 1 ≡ suc n = omega arith in e) in
    let through : take (suc n) (chars text) ≡ front ++ c ∷ [] = ap (take (suc n)) all ∙ take_at (front ++ c ∷ []) others (suc n) longer in
    let total : length (chars text) ≡ length (front ++ c ∷ []) + length others = ap length all ∙ length-append (front ++ c ∷ []) others in
    let size : length text ≡ length (encode_utf8_all front) + length rest = ap length at ∙ length-append (encode_utf8_all front) rest in
    let passed : offset ≡ length (encode_utf8_all front) = omega arith in
    record {
      place = n;
      inside = omega arith;
      offset = passed ∙ ap (λ cs. length (encode_utf8_all cs)) (sym before);
      before = subst IsSafe (sym before) safe;
      through = λ both. unsafe (subst IsSafe through both);
    }

-- ---- the test of a safe text
