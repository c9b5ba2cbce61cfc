-- Lemmas on a scan: what it knows of the characters so far, what one more shows, and why a text whose bytes add few has no long run.
use Rattle.std.proofs.lemmas.Str.{IsUtf8-from_ascii, chars-IsAscii, IsUtf8-take, IsUtf8-past_char, encodes-chars, encodes-append, length-encode, len_utf8_bounds}
use Rattle.std.proofs.Common.{◌≡◌, ℕ, suc, ◌+◌, ◌-◌, ◌≤◌, ◌<◌, max, not, true, false, ◌==◌, List, [], ◌∷◌, ◌++◌, length, drop, get_or, flat_map, Option, Some, None, ne_eqb, encode_utf8, slice_index, refl, sym, ap, subst, ◌∙◌, arith, append_assoc, append-nil, ◌*◌, Bool, cond, take, encode_utf8_all, chars, IsUtf8, length-append, inl, inr}
use Rattle.std.specs.Prelude.{IsSome, IfSome, unwrap_or}
use Rattle.std.proofs.lemmas.Bool.{cases_Bool, cases_lt, cond-false, and_parts, cases_eq}
use Rattle.std.proofs.lemmas.Bool.Decides.{nat_tests}
use Rattle.std.proofs.lemmas.List.{drop_more, get_or_past, drop-drop, length-take-le, take-append-drop}
use Rattle.std.specs.Str.{chars, IsUtf8, IsAscii, IsCharBoundary}
use Rattle.std.specs.List.{list_all, count_by}
use Rattle.unicode.specs.CanonicalCombiningClass.{canonical_combining_class as ccc}
use Rattle.unicode_normalization.specs.Decompose.{decompose_canonical}
use Rattle.unicode_normalization.specs.Forms.{nfd, Nfd}
use Rattle.unicode_normalization.specs.Order.{is_nonstarter}
use Rattle.unicode_normalization.proofs.DecomposeLemmas.{decompose-final}
use Rattle.unicode_normalization.proofs.FormsLemmas.{is_final-Nfd, quick_check-below, class-latin}
use Rattle.uca_weights.specs.declared.limits.TheConstants.{MAX_RUN, MAX_DECOMPOSITION}
use Rattle.uca_model.specs.Lines.{IsTextLine}
use Rattle.uca_model.specs.SafeText.{longest_run_after, longest_run, IsSafe, IsLongRunAt}
use Rattle.uca_model.proofs.SafeLemmas.{run_after, one_too_many, ends-append, length-nfd_one, parts-push, runs-push, safe_none, safe_more, short_last, stands_over, stands_next, stands_last, unsafe_from, long_run_here}
use Rattle.uca_window.specs.Passing.{is_passed, last_of, Passes, is_pair, is_stop, is_of_pair, is_dense, is_high, added_by, Skips}
use Rattle.uca_window.specs.Scan.{Fits, Scanned, ScannedTo, IsPassedTo}
use Rattle.uca_window.proofs.PassedCharacters.{below_marks, first-stop, growth, joins, decompose-short, decompose-joins}
use Rattle.std.proofs.lemmas.Grind.{common_steps}
use Rattle.std.proofs.lemmas.Simd.{chunk-drop}
use Rattle.std.proofs.lemmas.List.Sums.{sum_by-append, sum_by-cons, count_by-le-length}
use Rattle.std.specs.Char.{len_utf8}
use lib.Utf8.{encode}
use lib.Lanes.{chunk}

-- ---- the run of nonstarters after a character

longest-short : (n : ℕ) (xs : List ℕ) → longest_run_after n xs ≤ n + length xs
longest-short n [] = omega arith
longest-short n (x ∷ xs) = grind (arith, common_steps, cases_Bool, longest-short (n + 1) xs, longest-short 0 xs)

pub run-longest : (n : ℕ) (xs : List ℕ) → run_after n xs ≤ longest_run_after n xs
run-longest n [] = omega arith
run-longest n (x ∷ xs) = grind (arith, common_steps, cases_Bool, run_after, run-longest (n + 1) xs, run-longest 0 xs)

joined : (n most : ℕ) (xs : List ℕ) → length xs ≤ 4 → joins ccc most xs ≡ true → longest_run_after n xs ≤ max n 3 + most
joined n most [] short h = cc
joined n most (x ∷ xs) short h = grind (arith, common_steps, nat_tests, cases_Bool, longest-short n (x ∷ xs), longest-short 0 xs)

-- no run is longer than that
pub grown : (n c : ℕ) → longest_run_after n (decompose_canonical c) ≤ max n 3 + growth c
grown n c = joined n (growth c) (decompose_canonical c) (decompose-short c) (decompose-joins c)

-- after no starter a run goes on
unjoined : (n : ℕ) (xs : List ℕ) → joins ccc 0 xs ≡ true → run_after n xs ≡ run_after 0 xs
unjoined n [] h = cc
unjoined n (x ∷ xs) h = grind (arith, common_steps, nat_tests, cases_Bool)

-- what came before a passed code point doesn't count after it
pub passed_ends : (count c : ℕ) → is_passed c ≡ true → run_after count (decompose_canonical c) ≡ run_after 0 (decompose_canonical c)
passed_ends count c passed = unjoined count (decompose_canonical c) (rw passed at (decompose-joins c))

-- a character that adds few to a run fits
pub few_fit : (count c : ℕ) → max count 3 + growth c ≤ MAX_RUN → Fits count c
few_fit count c few = (omega (arith, decompose-short c), omega (arith, grown count c))

pub passed_fits : (count c : ℕ) → count ≤ MAX_RUN → is_passed c ≡ true → Fits count c
passed_fits count c within passed = few_fit count c (rw passed (omega arith))

-- no decomposition is a long run
pub fits_alone : (c : ℕ) → Fits 0 c
fits_alone c = (omega (arith, decompose-short c), omega (arith, decompose-short c, longest-short 0 (decompose_canonical c)))

own_run_within : (c : ℕ) → run_after 0 (decompose_canonical c) ≤ MAX_RUN
own_run_within c = omega (arith, run-longest 0 (decompose_canonical c), (fits_alone c).1)

-- the run of a character by itself
pub own : (r : Option ℕ) (m : ℕ) → IsSome r → IfSome r (λ n. (n ≤ MAX_RUN) × (n ≡ m)) → unwrap_or r 0 ≡ m
own None m some h = cc
own (Some n) m some h = h.1

-- ---- the characters so far

-- no character is scanned yet
pub scanned_none : Scanned [] 0
scanned_none = record { ends = refl; within = omega arith; safe = safe_none }

-- the longest run with one more character, by the count
runs_with : (front : List ℕ) (count c : ℕ) → Scanned front count → longest_run (nfd (front ++ c ∷ [])) ≡ max (longest_run (nfd front)) (longest_run_after count (decompose_canonical c))
runs_with front count c s = runs-push front c ∙ ap (λ k. max (longest_run (nfd front)) (longest_run_after k (decompose_canonical c))) (sym s.ends)

-- a character that fits is scanned too
pub scanned_more : (front : List ℕ) (count c n : ℕ) → Scanned front count → Fits count c → n ≤ MAX_RUN → n ≡ run_after count (decompose_canonical c) → Scanned (front ++ c ∷ []) n
scanned_more front count c n s fits within is = record {
  ends = is ∙ ap (λ k. run_after k (decompose_canonical c)) s.ends ∙ sym (ends-append 0 (flat_map decompose_canonical front) (decompose_canonical c)) ∙ ap (run_after 0) (sym (parts-push front c));
  within = within;
  safe = (
      let e : longest_run (nfd (front ++ c ∷ [])) ≡ max (longest_run (nfd front)) (longest_run_after count (decompose_canonical c)) = runs_with front count c s in
      safe_more front c s.safe (omega (arith, s.safe.runs, fits.1)) (subst (λ k. k ≤ MAX_DECOMPOSITION) (sym (length-nfd_one c)) fits.0));
}

-- one that doesn't fit makes the text unsafe
scanned_stop : (front : List ℕ) (count c : ℕ) → Scanned front count → ¬ (Fits count c) → ¬ (IsSafe (front ++ c ∷ []))
scanned_stop front count c s unfit safe =
    let e : longest_run (nfd (front ++ c ∷ [])) ≡ max (longest_run (nfd front)) (longest_run_after count (decompose_canonical c)) = runs_with front count c s in
    unfit (subst (λ k. k ≤ MAX_DECOMPOSITION) (length-nfd_one c) (short_last front c safe), omega (arith, safe.runs))

-- below U+00C0 a character is its own decomposition
pub latin_parts : (c : ℕ) → c < 0xC0 → decompose_canonical c ≡ c ∷ []
latin_parts c h = decompose-final Nfd c (is_final-Nfd c (quick_check-below Nfd c h))

-- and a starter
latin_starter : (c : ℕ) → c < 0xC0 → is_nonstarter c ≡ false
latin_starter c h = ap (λ k. not (k == 0)) (class-latin c (omega arith))

-- so no nonstarter is at the end after it
pub latin_ends : (count c : ℕ) → c < 0xC0 → 0 ≡ run_after count (decompose_canonical c)
latin_ends count c h = sym (ap (run_after count) (latin_parts c h) ∙ cond-false (is_nonstarter c) _ _ (latin_starter c h))

-- and it fits
pub latin_fits : (count c : ℕ) → count ≤ MAX_RUN → c < 0xC0 → Fits count c
latin_fits count c full h = grind (arith, common_steps, latin_parts, cond-false, latin_starter)

-- a nonstarter of the list follows a full run
pub full_run : (n i c class : ℕ) (points : List ℕ) → i < length points → c ≡ get_or points i c → class ≡ ccc c → (class ≡ 0 → ⊥) → n ≡ MAX_RUN → MAX_RUN < longest_run_after n (drop i points)
full_run n i c class points h is k mark full = grind (arith, common_steps, drop_more, one_too_many, ne_eqb)

-- one more character that is passed
pub scanned_one : (front : List ℕ) (count c : ℕ) → Scanned front count → is_passed c ≡ true → Scanned (front ++ c ∷ []) (run_after 0 (decompose_canonical c))
scanned_one front count c s passed = scanned_more front count c (run_after 0 (decompose_canonical c)) s (passed_fits count c s.within passed) (own_run_within c) (sym (passed_ends count c passed))

-- and more of them
scanned_all : (front : List ℕ) (last : ℕ) (cs : List ℕ) → Scanned front (run_after 0 (decompose_canonical last)) → list_all is_passed cs ≡ true → Scanned (front ++ cs) (run_after 0 (decompose_canonical (last_of last cs)))
scanned_all front last [] s all = subst (λ xs. Scanned xs (run_after 0 (decompose_canonical last))) (sym (append-nil front)) s
scanned_all front last (c ∷ cs) s all =
    let parts = and_parts (is_passed c) (list_all is_passed cs) all in
    subst (λ xs. Scanned xs (run_after 0 (decompose_canonical (last_of c cs)))) (append_assoc front (c ∷ []) cs)
    (scanned_all (front ++ c ∷ []) c cs (scanned_one front (run_after 0 (decompose_canonical last)) c s parts.0) parts.1)

last_passed : (last : ℕ) (cs : List ℕ) → is_passed last ≡ true → list_all is_passed cs ≡ true → is_passed (last_of last cs) ≡ true
last_passed last [] passed all = passed
last_passed last (c ∷ cs) passed all = let parts = and_parts (is_passed c) (list_all is_passed cs) all in last_passed c cs parts.0 parts.1

-- at first none are scanned, as after a character that is a starter
pub passed_start : (text : List ℕ) (c : ℕ) → c < 0xC0 → IsPassedTo text text c
passed_start text c latin = grind (arith, common_steps, latin_ends, scanned_none, below_marks)

-- past characters that are passed
pub passed_over : (text rest others : List ℕ) (last end : ℕ) → IsPassedTo text rest last → Passes rest last others end → IsPassedTo text others end
passed_over text rest others last end at p = record {
  to = record {
    front = at.to.front ++ p.front;
    stands = stands_over text rest at.to.front p.front others at.to.stands p.parts;
    scan = subst (λ c. Scanned (at.to.front ++ p.front) (run_after 0 (decompose_canonical c))) (sym p.end_is) (scanned_all at.to.front last p.front at.to.scan p.passed);
  };
  passed = subst (λ c. is_passed c ≡ true) (sym p.end_is) (last_passed last p.front at.passed p.passed);
}

-- past one
pub passed_next : (text rest more : List ℕ) (count c : ℕ) → ScannedTo text rest count → rest ≡ encode_utf8 c ++ more → is_passed c ≡ true → IsPassedTo text more c
passed_next text rest more count c at is passed = record {
  to = record {
    front = at.front ++ c ∷ [];
    stands = stands_next text rest at.front c more at.stands is;
    scan = scanned_one at.front count c at.scan passed;
  };
  passed = passed;
}

-- a step past a character that fits
pub scanned_step : (text rest more : List ℕ) (count c n : ℕ) → ScannedTo text rest count → rest ≡ encode_utf8 c ++ more → Fits count c → n ≤ MAX_RUN → n ≡ run_after count (decompose_canonical c) → ScannedTo text more n
scanned_step text rest more count c n at is fits within run = record {
  front = at.front ++ c ∷ [];
  stands = stands_next text rest at.front c more at.stands is;
  scan = scanned_more at.front count c n at.scan fits within run;
}

-- a text with a character that doesn't fit is not safe
pub not_safe : (text rest more : List ℕ) (count c : ℕ) → ScannedTo text rest count → IsUtf8 text → rest ≡ encode_utf8 c ++ more → ¬ (Fits count c) → ¬ (IsSafe (chars text))
not_safe text rest more count c at utf8 is unfit = unsafe_from text rest at.front c more at.stands utf8 is (scanned_stop at.front count c at.scan unfit)

-- and this character is the first with which it isn't
pub long_run_at : (text rest more : List ℕ) (count c offset : ℕ) → ScannedTo text rest count → IsUtf8 text → offset ≡ length text - length rest → rest ≡ encode_utf8 c ++ more → ¬ (Fits count c) → IsLongRunAt (chars text) offset
long_run_at text rest more count c offset at utf8 o is unfit = long_run_here text rest at.front c more offset at.stands utf8 o is at.scan.safe (scanned_stop at.front count c at.scan unfit)

-- a text that is scanned to its end is safe
pub all_safe : (text rest : List ℕ) (count : ℕ) → ScannedTo text rest count → IsUtf8 text → length rest ≡ 0 → IsSafe (chars text)
all_safe text rest count at utf8 none = subst IsSafe (stands_last text rest at.front at.stands utf8 none) at.scan.safe

-- ---- texts that are all ASCII: their characters are starters

-- ASCII characters after a safe text that ends in a starter
ascii_scanned : (front cs : List ℕ) → Scanned front 0 → IsAscii cs → Scanned (front ++ cs) 0
ascii_scanned front [] s ascii = subst (λ xs. Scanned xs 0) (sym (append-nil front)) s
ascii_scanned front (c ∷ cs) s ascii =
    let low : c < 0xC0 = omega (arith, ascii 0) in
    let next : Scanned (front ++ c ∷ []) 0 = scanned_more front 0 c 0 s (latin_fits 0 c (omega arith) low) (omega arith) (latin_ends 0 c low) in
    subst (λ xs. Scanned xs 0) (append_assoc front (c ∷ []) cs) (ascii_scanned (front ++ c ∷ []) cs next (λ i. ascii (suc i)))

pub ascii_safe : (bs : List ℕ) → IsAscii bs → IsSafe (chars bs)
ascii_safe bs ascii = subst IsSafe (sym (chars-IsAscii bs ascii)) (ascii_scanned [] bs scanned_none ascii).safe

pub ascii_line : (bs : List ℕ) → IsAscii bs → IsTextLine bs
ascii_line bs ascii = record { utf8 = IsUtf8-from_ascii bs ascii; safe = ascii_safe bs ascii }

-- bytes that are ASCII at each place
pub all_ascii : (bs : List ℕ) → ((k : ℕ) → k < length bs → slice_index bs k < 0x80) → IsAscii bs
all_ascii bs all i = grind (arith, common_steps, cases_lt, get_or_past)

pub ruleset run_steps = (common_steps, full_run)

-- ---- how many nonstarters characters add to a run

-- ---- one character, by its bytes

first-counts : (p : ℕ → Bool) (xs : List ℕ) → 0 < length xs → p (get_or xs 0 0) ≡ true → 1 ≤ count_by p xs
first-counts p [] some h = absurd (omega arith)
first-counts p (x ∷ xs) some h = grind (arith, common_steps, sum_by-cons)

-- a character that is not passed begins with a stop, which is high
begins : (p : ℕ → Bool) (c : ℕ) → ((b : ℕ) → is_stop b ≡ true → p b ≡ true) → is_passed c ≡ false → 1 ≤ count_by p (encode c)
begins p c stops other = first-counts p (encode c) (omega (arith, length-encode c, (len_utf8_bounds c).0)) (stops _ (first-stop c other))

-- and is no single byte
long-other : (c : ℕ) → is_passed c ≡ false → 2 ≤ len_utf8 c
long-other c other = grind (arith, common_steps, cases_lt, below_marks, cases_Bool)

-- it adds no more than it has bytes, nor two for three bytes if none of them is dense, nor what either look at its bytes counts
record Bounds (c : ℕ) : Type 0 where
  by_bytes : growth c ≤ length (encode c)
  by_thirds : 3 * growth c ≤ 2 * length (encode c) + 2 * count_by is_dense (encode c)
  by_look : (coarsely : Bool) → growth c ≤ added_by coarsely (encode c)

bounds-other : (c : ℕ) → is_pair c ≡ false → Bounds c
bounds-other c single = elim (cases_Bool (is_passed c)) [
  | inl passed ↦ record { by_bytes = rw passed (omega arith); by_thirds = rw passed (omega arith); by_look = λ _. rw passed (omega arith) }
  | inr other ↦
      let one : growth c ≡ 1 = ap (λ b. cond b 0 (cond (is_pair c) 2 1)) other ∙ ap (λ b. cond b 2 1) single in
      record {
        by_bytes = omega (arith, length-encode c, long-other c other);
        by_thirds = omega (arith, length-encode c, long-other c other);
        by_look = elim [
          | true ↦ omega (arith, begins is_high c (λ b stop. grind (arith, nat_tests)) other)
          | false ↦ omega (arith, begins is_stop c (λ b stop. stop) other)
        ];
      }
]

by_computing : (c : ℕ) → growth c ≡ 2 → 3 ≤ length (encode c) + count_by is_dense (encode c) → 2 ≤ length (encode c) → 2 ≤ added_by true (encode c) → 2 ≤ added_by false (encode c) → Bounds c
by_computing c two third bytes coarse fine = record { by_bytes = omega arith; by_thirds = omega arith; by_look = elim [ true ↦ omega arith | false ↦ omega arith ] }

bounds : (c : ℕ) → Bounds c
unfolding encode
bounds c = elim (cases_eq c 0x344) [
  | inl a ↦ subst Bounds (sym a) (by_computing 0x344 refl (omega arith) (omega arith) (omega arith) (omega arith))
  | inr a ↦ elim (cases_eq c 0xF73) [
    | inl b ↦ subst Bounds (sym b) (by_computing 0xF73 refl (omega arith) (omega arith) (omega arith) (omega arith))
    | inr b ↦ elim (cases_eq c 0xF75) [
      | inl d ↦ subst Bounds (sym d) (by_computing 0xF75 refl (omega arith) (omega arith) (omega arith) (omega arith))
      | inr d ↦ elim (cases_eq c 0xF81) [
        | inl e ↦ subst Bounds (sym e) (by_computing 0xF81 refl (omega arith) (omega arith) (omega arith) (omega arith))
        | inr e ↦ bounds-other c (grind (arith, nat_tests))
      ]
    ]
  ]
]

-- ---- a text

-- how many nonstarters characters add to a run
abbrev pub growths : List ℕ → ℕ
growths [] = 0
growths (c ∷ cs) = growth c + growths cs

-- whatever follows a safe text and adds few
scanned_few : (front cs : List ℕ) (n : ℕ) → Scanned front n → max n 3 + growths cs ≤ MAX_RUN → (m : ℕ) × Scanned (front ++ cs) m
scanned_few front [] n s few = (n, subst (λ xs. Scanned xs n) (sym (append-nil front)) s)
scanned_few front (c ∷ cs) n s few =
    let run : _ ≤ longest_run_after n (decompose_canonical c) = run-longest n (decompose_canonical c) in
    let longest : longest_run_after n (decompose_canonical c) ≤ max n 3 + growth c = grown n c in
    let next : Scanned (front ++ c ∷ []) _ = scanned_more front n c _ s (few_fit n c (omega arith)) (omega arith) refl in
    let all = scanned_few (front ++ c ∷ []) cs _ next (omega arith) in
    (all.0, subst (λ xs. Scanned xs all.0) (append_assoc front (c ∷ []) cs) all.1)

-- no more than a measure of their bytes that is none too small for each character
module _ (measure : List ℕ → ℕ) (none : measure [] ≡ 0) (adds : (xs ys : List ℕ) → measure (xs ++ ys) ≡ measure xs + measure ys) (each : (c : ℕ) → 3 * growth c ≤ measure (encode c)) where
  growths-by : (cs : List ℕ) → 3 * growths cs ≤ measure (encode_utf8_all cs)
  growths-by [] = omega arith
  growths-by (c ∷ cs) = omega (arith, adds (encode c) (encode_utf8_all cs), each c, growths-by cs)

  safe_by : (bs : List ℕ) → IsUtf8 bs → 9 + measure bs ≤ 3 * MAX_RUN → IsSafe (chars bs)
  safe_by bs utf8 few =
      let same : measure (encode_utf8_all (chars bs)) ≡ measure bs = ap measure (encodes-chars bs utf8) in
      (scanned_few [] (chars bs) 0 scanned_none (omega (arith, growths-by (chars bs)))).1.safe

growths-bytes : (cs : List ℕ) → growths cs ≤ length (encode_utf8_all cs)
growths-bytes cs =
    let h : 3 * growths cs ≤ 3 * length (encode_utf8_all cs) = growths-by (λ xs. 3 * length xs) refl (λ xs ys. omega (arith, length-append xs ys)) (λ c. omega (arith, (bounds c).by_bytes)) cs in
    omega arith

-- few bytes are a safe text whatever they spell
pub short_safe : (bs : List ℕ) → IsUtf8 bs → 3 + length bs ≤ MAX_RUN → IsSafe (chars bs)
short_safe bs utf8 few = safe_by (λ xs. 3 * length xs) refl (λ xs ys. omega (arith, length-append xs ys)) (λ c. omega (arith, (bounds c).by_bytes)) bs utf8 (omega arith)

-- and so are half as many more if none of them is dense
pub medium_safe : (bs : List ℕ) → IsUtf8 bs → count_by is_dense bs ≡ 0 → 2 * length bs ≤ 3 * (MAX_RUN - 3) → IsSafe (chars bs)
medium_safe bs utf8 none few =
    safe_by (λ xs. 2 * length xs + 2 * count_by is_dense xs) refl (λ xs ys. grind (arith, common_steps, length-append, sum_by-append)) (λ c. (bounds c).by_thirds) bs utf8 (omega arith)

added-append : (coarsely : Bool) (xs ys : List ℕ) → added_by coarsely (xs ++ ys) ≡ added_by coarsely xs + added_by coarsely ys
added-append coarsely xs ys = grind (arith, common_steps, sum_by-append)

-- and so are bytes that add few
pub light_safe : (coarsely : Bool) (bs : List ℕ) → IsUtf8 bs → 3 + added_by coarsely bs ≤ MAX_RUN → IsSafe (chars bs)
light_safe coarsely bs utf8 few =
    safe_by (λ xs. 3 * added_by coarsely xs) refl (λ xs ys. omega (arith, added-append coarsely xs ys)) (λ c. omega (arith, (bounds c).by_look coarsely)) bs utf8 (omega arith)

-- ---- a text in blocks

-- what is left from a place on: the block there, and what is left from a place in it or at its end
pub added-left : (coarsely : Bool) (bs : List ℕ) (at next : ℕ) → next ≤ at + 32 → added_by coarsely (drop at bs) ≤ added_by coarsely (chunk at 32 bs) + added_by coarsely (drop next bs)
added-left coarsely bs at next within =
    let k = at + 32 - next in
    let place : at + 32 ≡ next + k = omega arith in
    let whole : added_by coarsely (drop at bs) ≡ added_by coarsely (chunk at 32 bs) + added_by coarsely (drop (at + 32) bs) = ap (added_by coarsely) (chunk-drop at 32 bs) ∙ added-append coarsely (chunk at 32 bs) (drop (at + 32) bs) in
    let later : added_by coarsely (drop (at + 32) bs) ≡ added_by coarsely (drop k (drop next bs)) = ap (added_by coarsely) (ap (λ n. drop n bs) place ∙ sym (drop-drop k next bs)) in
    let split : added_by coarsely (drop next bs) ≡ added_by coarsely (take k (drop next bs)) + added_by coarsely (drop k (drop next bs))
    = ap (added_by coarsely) (sym (take-append-drop k (drop next bs))) ∙ added-append coarsely (take k (drop next bs)) (drop k (drop next bs)) in
    omega arith

-- each byte counts twice at most
pub added-few : (coarsely : Bool) (bs : List ℕ) → added_by coarsely bs ≤ length bs + length bs
added-few coarsely bs = omega (arith, count_by-le-length (cond coarsely is_high is_stop) bs, count_by-le-length (cond coarsely is_dense is_of_pair) bs)

-- ---- bytes of which none passes a test

pub none_counted : (p : ℕ → Bool) (xs : List ℕ) → ((k : ℕ) → k < length xs → p (get_or xs k 0) ≡ false) → count_by p xs ≡ 0
none_counted p [] none = refl
none_counted p (x ∷ xs) none =
    let one : cond {A = ℕ} (p x) 1 0 ≡ 0 = ap (λ b. cond {A = ℕ} b 1 0) (none 0 (omega arith)) in
    let more : count_by p (x ∷ xs) ≡ cond {A = ℕ} (p x) 1 0 + count_by p xs = sum_by-cons (λ y. cond {A = ℕ} (p y) 1 0) x xs in
    omega (arith, one, more, none_counted p xs (λ k h. none (suc k) (omega arith)))

-- ---- between two passed characters that are close together

-- a passed character ends in few nonstarters
own_short : (c : ℕ) → is_passed c ≡ true → run_after 0 (decompose_canonical c) ≤ 3
own_short c passed = grind (arith, common_steps, growth, run-longest, grown)

-- past a passed character that is close to another
pub passed_skip : (text rest others : List ℕ) (last end : ℕ) → IsPassedTo text rest last → Skips rest others end → IsPassedTo text others end
passed_skip text rest others last end at s =
    let short : _ ≤ 3 = own_short last at.passed in
    let few = scanned_few at.to.front s.between _ at.to.scan (omega (arith, s.few, growths-bytes s.between)) in
    record {
      to = record {
        front = at.to.front ++ (s.between ++ end ∷ []);
        stands = stands_over text rest at.to.front (s.between ++ end ∷ []) others at.to.stands s.parts;
        scan = subst (λ xs. Scanned xs (run_after 0 (decompose_canonical end))) (append_assoc at.to.front s.between (end ∷ [])) (scanned_one (at.to.front ++ s.between) few.0 end few.1 s.passed);
      };
      passed = s.passed;
    }

-- what is left of a text after some characters is a text
utf8_past : (cs bytes others : List ℕ) → IsUtf8 bytes → bytes ≡ encode_utf8_all cs ++ others → IsUtf8 others
utf8_past [] bytes others utf8 is = subst IsUtf8 is utf8
utf8_past (c ∷ cs) bytes others utf8 is = grind (arith, common_steps, encode_utf8_all, IsUtf8-past_char, append_assoc, encode_utf8, utf8_past cs (encode_utf8_all cs ++ others) others (IsUtf8-past_char bytes (encode_utf8_all cs ++ others) c utf8 (is ∙ append_assoc (encode_utf8 c) (encode_utf8_all cs) others)) refl)

pub utf8_left : (text rest : List ℕ) (count : ℕ) → ScannedTo text rest count → IsUtf8 text → IsUtf8 rest
utf8_left text rest count at utf8 = utf8_past at.front text rest utf8 at.stands

-- less is left after it
pub skips_shorter : (bytes others more : List ℕ) (last end next : ℕ) → Passes bytes last others end → Skips others more next → length more < length bytes
skips_shorter bytes others more last end next p s = grind (arith, common_steps, encode_utf8_all, length-append, encodes-append, append-nil, encode_utf8, length-encode, len_utf8_bounds)

-- a text is safe that ends soon after a passed character
pub safe_end : (text rest : List ℕ) (last : ℕ) → IsPassedTo text rest last → IsUtf8 text → 3 + length rest ≤ MAX_RUN → IsSafe (chars text)
safe_end text rest last at utf8 few =
    let short : _ ≤ 3 = own_short last at.passed in
    let more : IsUtf8 rest = utf8_left text rest _ at.to utf8 in
    let spelt : encode_utf8_all (chars rest) ≡ rest = encodes-chars rest more in
    let size : length (encode_utf8_all (chars rest)) ≡ length rest = ap length spelt in
    let end = scanned_few at.to.front (chars rest) _ at.to.scan (omega (arith, growths-bytes (chars rest))) in
    let whole : ScannedTo text [] end.0 = record {
      front = at.to.front ++ chars rest;
      stands = stands_over text rest at.to.front (chars rest) [] at.to.stands (sym spelt ∙ sym (append-nil (encode_utf8_all (chars rest))));
      scan = end.1;
    } in
    all_safe text [] end.0 whole utf8 refl

-- a passed character at a place in the text
pub skips_at : (text from others : List ℕ) (end n : ℕ) → IsUtf8 text → IsCharBoundary text n → n ≤ length text → from ≡ drop n text → from ≡ encode_utf8 end ++ others → 3 + n ≤ MAX_RUN → is_passed end ≡ true → Skips text others end
skips_at text from others end n utf8 edge within is first few passed =
    let front : IsUtf8 (take n text) = IsUtf8-take text n utf8 edge in
    let spelt : encode_utf8_all (chars (take n text)) ≡ take n text = encodes-chars (take n text) front in
    let size : length (encode_utf8_all (chars (take n text))) ≡ n = ap length spelt ∙ length-take-le n text within in
    let whole : encode_utf8_all (chars (take n text) ++ end ∷ []) ≡ take n text ++ encode_utf8 end
    = encodes-append (chars (take n text)) (end ∷ []) ∙ ap (λ bs. encode_utf8_all (chars (take n text)) ++ bs) (append-nil (encode_utf8 end)) ∙ ap (λ bs. bs ++ encode_utf8 end) spelt in
    record {
      between = chars (take n text);
      parts = sym (take-append-drop n text) ∙ ap (λ bs. take n text ++ bs) (sym is ∙ first) ∙ sym (append_assoc (take n text) (encode_utf8 end) others) ∙ ap (λ bs. bs ++ others) (sym whole);
      few = omega (arith, size);
      passed = passed;
    }

pub ruleset counted_steps = (common_steps, none_counted, cases_lt)
