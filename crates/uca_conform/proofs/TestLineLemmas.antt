-- What the words of a test line say, and the text that is made of them.
use Rattle.std.proofs.Common.{◌≡◌, ℕ, ◌+◌, ◌*◌, ◌≤◌, Bool, true, false, not, ◌&&◌, ◌==◌, List, [], ◌∷◌, ◌++◌, length, flat_map, get_or, Option, IsUtf8, encode_utf8, encode_utf8_all, append-nil, length-append, refl, sym, subst, ap, ap₂, ◌∙◌, arith, inl, inr, ne_eqb}
use Rattle.std.proofs.Math.Bool.{and-true}
use Rattle.std.proofs.lemmas.Bool.{and_from, and_parts, cases_Bool, cond-true, cond-false, le-leb, leb-true}
use Rattle.std.proofs.lemmas.List.Folds.{list_all-append}
use Rattle.std.proofs.lemmas.List.Sums.{AllPass-from_list_all, list_all-from_AllPass}
use Rattle.std.proofs.lemmas.List.Concat.{flat_map-append}
use Rattle.std.proofs.lemmas.Str.{chars_from_encodes, encodes-chars, length-encode, len_utf8_bounds}
use Rattle.std.specs.List.{list_all}
use Rattle.std.specs.Option.{ok_or, option_and_then}
use Rattle.std.specs.Prelude.{Result, Ok, Err, nat_le}
use Rattle.std.specs.Str.{chars}
use Rattle.unicode_normalization.specs.Forms.{nfd}
use Rattle.uca_weights.specs.declared.limits.TheConstants.{MAX_DECOMPOSITION, MAX_RUN}
use Rattle.uca_model.specs.SafeText.{is_safe, longest_run, longest_run_after, IsSafe}
use Rattle.uca_model.proofs.SafeLemmas.{longest_run-nfd, length-nfd_one}
use Rattle.unicode_normalization.specs.Decompose.{decompose_canonical}
use Rattle.unicode_normalization.specs.Order.{is_nonstarter}
use Rattle.uca_window.proofs.PassedCharacters.{decompose-short}
use Rattle.uca_weights.specs.declared.settings.Settings.{Settings}
use Rattle.uca_io.specs.Lines.{carriage_return, without_return}
use Rattle.uca_model.specs.Table.{ElementTable}
use Rattle.uca_io.specs.LineFold.{map_ok}
use Rattle.uca_model.specs.TableText.{◌>>=◌, skip_blanks}
use Rattle.uca_model.specs.TestFile.{TestCause, TestLine, bad_line, is_test, points_after, points_of, some_points, tests_of_line}
use Rattle.uca_conform.specs.Comparing.{Compared, can_compare, with_line, with_skipped, with_tests, with_text}
use Rattle.uca_conform.specs.TestReading.{HasPoints, SaysPoints}
use Rattle.uca_conform.specs.TestWords.{said_words, IsNextPoint}
use lib.Utf8.{scalar, scalars}

-- Safe texts

pub is_safe-from : (text : List ℕ) → IsSafe text → is_safe text ≡ true
is_safe-from text safe =
    and_from _ _ (le-leb (longest_run (nfd text)) MAX_RUN safe.runs)
    (list_all-from_AllPass (λ c. nat_le (length (nfd (c ∷ []))) MAX_DECOMPOSITION) text (λ k d low. le-leb _ _ (safe.short k d low)))

safe_from : (text : List ℕ) → is_safe text ≡ true → IsSafe text
safe_from text is =
    let parts = and_parts (nat_le (longest_run (nfd text)) MAX_RUN) (list_all (λ c. nat_le (length (nfd (c ∷ []))) MAX_DECOMPOSITION) text) is in
    record {
      runs = leb-true _ _ parts.0;
      short = λ k d low. leb-true _ _ (AllPass-from_list_all (λ c. nat_le (length (nfd (c ∷ []))) MAX_DECOMPOSITION) text parts.1 k d low);
    }

pub is_safe-not : (text : List ℕ) → ¬ (IsSafe text) → is_safe text ≡ false
is_safe-not text unsafe = elim (cases_Bool (is_safe text)) [ inl e ↦ absurd (unsafe (safe_from text e)) | inr e ↦ e ]

-- Points

scalars-list_all : (cs : List ℕ) → scalars cs ≡ list_all scalar cs
scalars-list_all [] = refl
scalars-list_all (c ∷ cs) = ap (λ (b : Bool). scalar c && b) (scalars-list_all cs)

-- scalar values are the characters of their text
chars_of_points : (points : List ℕ) → list_all scalar points ≡ true → chars (encode_utf8_all points) ≡ points
chars_of_points points all = sym (chars_from_encodes points (encode_utf8_all points) (points, (scalars-list_all points ∙ all, refl)) refl)

-- the bytes of a text are that text
chars_written : (points bytes : List ℕ) → bytes ≡ encode_utf8_all points → list_all scalar points ≡ true → chars bytes ≡ points
chars_written points bytes is all = ap chars is ∙ chars_of_points points all

-- ---- short texts

run-short : (n : ℕ) (xs : List ℕ) → longest_run_after n xs ≤ n + length xs
run-short n [] = omega arith
run-short n (x ∷ xs) = elim (cases_Bool (is_nonstarter x)) [
  | inl mark ↦ rw mark (let h : longest_run_after (n + 1) xs ≤ n + 1 + length xs = run-short (n + 1) xs in omega arith)
  | inr starter ↦ rw starter (let h : longest_run_after 0 xs ≤ 0 + length xs = run-short 0 xs in omega arith)
]

decomposed-short : (xs : List ℕ) → length (flat_map decompose_canonical xs) ≤ 4 * length xs
decomposed-short [] = omega arith
decomposed-short (x ∷ xs) = omega (arith, length-append (decompose_canonical x) (flat_map decompose_canonical xs), decompose-short x, decomposed-short xs)

-- a text of at most fifteen characters is safe: each has at most four code points in NFD
pub short-safe : (text : List ℕ) → length text ≤ 15 → IsSafe text
short-safe text few = record {
  runs = omega (arith, few, longest_run-nfd text, run-short 0 (flat_map decompose_canonical text), decomposed-short text);
  short = λ k d low. omega (arith, length-nfd_one (get_or text k d), decompose-short (get_or text k d));
}

-- a character has a byte at least
chars-fewer : (bytes : List ℕ) → IsUtf8 bytes → length (chars bytes) ≤ length bytes
chars-fewer bytes utf8 = subst (λ (b : List ℕ). length (chars bytes) ≤ length b) (encodes-chars bytes utf8) (written-longer (chars bytes))
  where
    written-longer : (cs : List ℕ) → length cs ≤ length (encode_utf8_all cs)
    written-longer [] = omega arith
    written-longer (c ∷ cs) = omega (arith, length-append (encode_utf8 c) (encode_utf8_all cs), length-encode c, (len_utf8_bounds c).0, written-longer cs)

-- and so is one of at most fifteen bytes
pub bytes-safe : (bytes : List ℕ) → IsUtf8 bytes → length bytes ≤ 15 → IsSafe (chars bytes)
bytes-safe bytes utf8 few = short-safe (chars bytes) (omega (arith, chars-fewer bytes utf8))

-- with the code point of one more word
pub points-push : (line rest others bytes new : List ℕ) (point : ℕ) (is_some is_text is_scalar : Bool) → HasPoints line rest bytes is_some is_text → IsNextPoint rest point others
    → is_scalar ≡ scalar point → (is_scalar ≡ true → new ≡ bytes ++ encode_utf8 point) → length new ≤ length bytes + 4 → HasPoints line others new true (is_text && is_scalar)
points-push line rest others bytes new point is_some is_text is_scalar has next scalar_is added fits =
    let points : List ℕ = has.points in record {
      points = points ++ point ∷ [];
      same = has.same ∙ ap (points_after points) next.split ∙ ap (option_and_then (λ c. points_after (points ++ c ∷ []) (said_words others))) (sym next.said);
      some = sym (ap not (ne_eqb (length (points ++ point ∷ [])) 0 (λ none. omega (arith, length-append points (point ∷ [])))));
      scalars = ap₂ (λ (a b : Bool). a && b) has.scalars (scalar_is ∙ sym (and-true (scalar point))) ∙ sym (list_all-append scalar points (point ∷ []));
      kept = λ both. (let parts = and_parts is_text is_scalar both in added parts.1 ∙ ap (λ (xs : List ℕ). xs ++ encode_utf8 point) (has.kept parts.0) ∙ sym (written-push points point));
      fits = omega (arith, has.fits, next.shorter, fits);
    }
  where
    written-push : (cs : List ℕ) (c : ℕ) → encode_utf8_all (cs ++ c ∷ []) ≡ encode_utf8_all cs ++ encode_utf8 c
    written-push cs c = flat_map-append encode_utf8 cs (c ∷ []) ∙ ap (λ (l : List ℕ). encode_utf8_all cs ++ l) (append-nil (encode_utf8 c))

-- what the words of a test line say
abbrev says : List ℕ → Result (List ℕ) TestCause
says line = ok_or (option_and_then some_points (points_after [] (said_words line))) bad_line

-- after the last word
says_points : (bytes rest text : List ℕ) (is_some is_text : Bool) (has : HasPoints bytes rest text is_some is_text) → said_words rest ≡ [] → says bytes ≡ ok_or (some_points has.points) bad_line
says_points bytes rest text is_some is_text has none = ap (λ (o : Option (List ℕ)). ok_or (option_and_then some_points o) bad_line) (has.same ∙ ap (points_after has.points) none)

not-true : (b : Bool) → not b ≡ true → b ≡ false
not-true true is = cc
not-true false is = refl

known : (bytes rest text : List ℕ) (is_some is_text : Bool) (has : HasPoints bytes rest text is_some is_text) → said_words rest ≡ [] → is_some ≡ true → says bytes ≡ Ok has.points
known bytes rest text is_some is_text has none some =
    says_points bytes rest text is_some is_text has none
    ∙ ap (λ (o : Option (List ℕ)). ok_or o bad_line) (cond-false _ _ _ (not-true (length has.points == 0) (sym has.some ∙ some)))

-- after the last word, a line with a surrogate, or whose text was looked at
pub points-read : (line rest bytes : List ℕ) (is_some is_text is_compared : Bool) → HasPoints line rest bytes is_some is_text → said_words rest ≡ [] → is_some ≡ true
    → (is_text ≡ false → is_compared ≡ false) → (is_text ≡ true → is_compared ≡ is_safe (chars bytes)) → SaysPoints (says line) is_compared (chars bytes)
points-read line rest bytes is_some is_text is_compared has none some not_text is_read = record {
  points = has.points;
  known = known line rest bytes is_some is_text has none some;
  compared = elim (cases_Bool is_text) [
    | inl e ↦ ap₂ (λ (x y : Bool). x && y) (sym has.scalars ∙ e) (ap is_safe (sym (text-kept e)) ∙ sym (is_read e))
    | inr e ↦ ap (λ (b : Bool). b && is_safe has.points) (sym has.scalars ∙ e) ∙ sym (not_text e)
  ];
  same = λ is. elim (cases_Bool is_text) [
    | inl e ↦ text-kept e
    | inr e ↦ (let other : true ≡ false = sym is ∙ not_text e in cc)
  ];
}
  where
    text-kept : is_text ≡ true → chars bytes ≡ has.points
    text-kept e = chars_written has.points bytes (has.kept e) (sym has.scalars ∙ e)

-- the text of a line that is compared
pub compared-text : (said : Result (List ℕ) TestCause) (is_compared : Bool) (text : List ℕ) → SaysPoints said is_compared text → is_compared ≡ true → can_compare text ≡ true
compared-text said is_compared text has is = ap can_compare (has.same is) ∙ has.compared ∙ is

-- Lines

pub length-without_return : (line : List ℕ) → length (without_return line) ≤ length line
length-without_return [] = omega arith
length-without_return (b ∷ []) =
    elim (cases_Bool (b == carriage_return)) [
      | inl e ↦ let none : length (without_return (b ∷ [])) ≡ 0 = ap (length {A = ℕ}) (cond-true _ [] (b ∷ []) e) in omega (arith, none)
      | inr e ↦ let one : length (without_return (b ∷ [])) ≡ 1 = ap (length {A = ℕ}) (cond-false _ [] (b ∷ []) e) in omega (arith, one)
    ]
length-without_return (b ∷ c ∷ line) = let later : length (without_return (c ∷ line)) ≤ length (c ∷ line) = length-without_return (c ∷ line) in omega (arith, later)

-- a line that is no test line
pub line-other : (t : ElementTable) (s : Settings) (n : ℕ) (sum : Compared) (line text : List ℕ) → text ≡ without_return line → false ≡ is_test (skip_blanks text) → with_line t s n sum line ≡ Ok sum
unfolding tests_of_line
line-other t s n sum line text is other = ap (map_ok (with_tests t s sum)) (cond-false _ _ _ (ap (λ (xs : List ℕ). is_test (skip_blanks xs)) (sym is) ∙ sym other))

abbrev one_test : ℕ → List ℕ → List TestLine
one_test n points = record { number = n; points = points } ∷ []

line-test : (t : ElementTable) (s : Settings) (n : ℕ) (sum : Compared) (line text : List ℕ) (r : Result (List ℕ) TestCause) → text ≡ without_return line → true ≡ is_test (skip_blanks text) → points_of text ≡ r
    → with_line t s n sum line ≡ map_ok (with_tests t s sum) (r >>= (λ points. Ok (one_test n points)))
unfolding tests_of_line
line-test t s n sum line text r is test says =
    ap (map_ok (with_tests t s sum)) (cond-true _ _ _ (ap (λ (xs : List ℕ). is_test (skip_blanks xs)) (sym is) ∙ sym test)
    ∙ ap (λ (x : Result (List ℕ) TestCause). x >>= (λ points. Ok (one_test n points))) (ap points_of (sym is) ∙ says))

-- a test line that is at fault
pub line-fault : (t : ElementTable) (s : Settings) (n : ℕ) (sum : Compared) (line text : List ℕ) (cause : TestCause) → text ≡ without_return line → true ≡ is_test (skip_blanks text) → points_of text ≡ Err cause → with_line t s n sum line ≡ Err cause
line-fault t s n sum line text cause is test says = line-test t s n sum line text (Err cause) is test says

-- a test line that is not compared
pub line-skipped : (t : ElementTable) (s : Settings) (n : ℕ) (sum : Compared) (line text read : List ℕ) → text ≡ without_return line → true ≡ is_test (skip_blanks text) → SaysPoints (points_of text) false read → with_line t s n sum line ≡ Ok (with_skipped sum)
line-skipped t s n sum line text read is test has = line-test t s n sum line text (Ok has.points) is test has.known ∙ ap Ok (cond-false _ _ _ has.compared)

-- a test line that is compared
pub line-compared : (t : ElementTable) (s : Settings) (n : ℕ) (sum : Compared) (line text read : List ℕ) → text ≡ without_return line → true ≡ is_test (skip_blanks text) → SaysPoints (points_of text) true read
    → with_line t s n sum line ≡ Ok (with_text t s n sum read)
line-compared t s n sum line text read is test has =
    line-test t s n sum line text (Ok has.points) is test has.known ∙ ap Ok (cond-true _ _ _ has.compared) ∙ ap (λ (points : List ℕ). Ok (with_text t s n sum points)) (sym (has.same refl))
