-- What a code point decomposes to is short, and begins with a starter or adds few code points to a run, by the rows of the kit.
use Rattle.std.proofs.Common.{◌≡◌, ℕ, ◌+◌, ◌-◌, ◌/◌, ◌%◌, ◌≤◌, ◌<◌, Bool, true, false, not, ◌||◌, ◌&&◌, ◌==◌, nat_le, nat_lt, List, [], ◌∷◌, length, cond, refl, sym, ap, ap₂, ◌∙◌, arith, inl, inr, eqb, eq-eqb, ne_eqb, ◌⊎◌, ltb, ◌++◌, take, drop, get_or, encode_utf8_all, chars, IsUtf8, subst, append-nil, length-append, lt-ltb, le-leb}
use Rattle.std.proofs.lemmas.Bool.{cases_Bool, cases_eq, or_left, or_right, and_from, and_parts, not_from_false, leb-true, not-true, not-false, cond-true, cond-false, ltb-true, ltb-false}
use Rattle.std.proofs.lemmas.Bool.Decides.{nat_tests}
use Rattle.ucd_table.proofs.Facts.{tree_value, tree_of, tree_value-tree_of}
use Rattle.ucd_table.proofs.RangedFacts.{points_ok, values_ok, Stepped-at_points}
use Rattle.ucd_table.proofs.Computing.{tables}
use Rattle.ucd_normal.specs.declared.forms.Form.TheVariants.{Nfd}
use Rattle.ucd_normal.specs.CanonicalCombiningClass.{canonical_combining_class as ccc}
use Rattle.ucd_normal.specs.Decomposition.{decomposition, canonical_mapping, if_canonical, expand}
use Rattle.ucd_normal.specs.DecompositionRows.{Tag}
use Rattle.ucd_normal.proofs.CanonicalCombiningClassLemmas.{canonical_combining_class_stepped}
use Rattle.ucd_normal.proofs.CompositionLemmas.{is_empty}
use Rattle.ucd_normal.proofs.DecompositionLemmas.{decomposition_stepped}
use Rattle.unicode_normalization.specs.Decompose.{decompose}
use Rattle.unicode_normalization.specs.Hangul.{is_syllable, decompose_hangul}
use Rattle.unicode_normalization.proofs.DecomposeLemmas.{decompose-syllable, decompose-final, decompose-mapped}
use Rattle.unicode_normalization.proofs.HangulLemmas.{is_syllable-true, decompose_hangul-two, decompose_hangul-three}
use Rattle.uca_window.specs.Passing.{is_passed, is_passed_outside, is_passed_between, is_pair, is_within, is_stop, last_of, Passes}
use Rattle.std.proofs.lemmas.List.Sums.{prefix_len-le-length, prefix_len_passes, prefix_len_stops, prefix_len-drop_no, prefix_len-drop_yes, prefix_len-drop_all}
use Rattle.std.proofs.lemmas.List.Folds.{prefix_len-append}
use Rattle.std.proofs.lemmas.Simd.{chunk-drop, length-chunk}
use lib.Lanes.{chunk}
use Rattle.std.proofs.lemmas.List.{get_or_append_left, get_or-append-add, get_or-take, length-take-le, take_at, take-append-drop}
use Rattle.std.proofs.lemmas.Str.{IsUtf8-take, encodes-chars, chars_from_encodes, encodes-append, len_utf8_bounds, length-encode}
use Rattle.std.specs.List.{list_all, prefix_len}
use Rattle.std.specs.Char.{len_utf8}
use Rattle.std.specs.Str.{IsCharBoundary}
use lib.Utf8.{encode}
use Rattle.std.proofs.lemmas.Grind.{common_steps}

-- ---- the rows

-- no code point of another class than 0 is passed
class-rows : (c : ℕ) → (ccc c == 0) ≡ false → not (is_passed c) ≡ true
unfolding points_ok tables canonical_combining_class_stepped
class-rows = Stepped-at_points ccc canonical_combining_class_stepped (λ n. n == 0) (λ c _. not (is_passed c)) refl

-- the mappings, read by a tree
entry_by_tree : ℕ → Tag × List ℕ
unfolding tables points_ok values_ok decomposition_stepped
entry_by_tree = tree_value decomposition_stepped.default (tree_of decomposition decomposition_stepped)

same_entries : decomposition ≡ entry_by_tree
unfolding entry_by_tree
same_entries = tree_value-tree_of decomposition decomposition_stepped

abbrev full : (ℕ → Tag × List ℕ) → ℕ → List ℕ
full entry c = expand (λ y. if_canonical (entry y)) 3 c

-- the classes, read by a tree
class_by_tree : ℕ → ℕ
unfolding tables points_ok values_ok canonical_combining_class_stepped
class_by_tree = tree_value canonical_combining_class_stepped.default (tree_of ccc canonical_combining_class_stepped)

same_classes : ccc ≡ class_by_tree
unfolding class_by_tree
same_classes = tree_value-tree_of ccc canonical_combining_class_stepped

-- how many nonstarters a character adds to a run
abbrev pub growth : ℕ → ℕ
growth c = cond (is_passed c) 0 (cond (is_pair c) 2 1)

-- there is a first code point, and it is a starter or there are no more than this
abbrev pub joins : (ℕ → ℕ) → ℕ → List ℕ → Bool
joins class most [] = false
joins class most (x ∷ xs) = class x == 0 || nat_lt (length xs) most

-- what a character decomposes to has at most four code points, and adds few nonstarters to a run
abbrev is_fine : (ℕ → ℕ) → ℕ → List ℕ → Bool
is_fine class c points = nat_le (length points) 4 && joins class (growth c) points

mapping-rows : (c : ℕ) → is_empty (canonical_mapping c) ≡ false → is_fine ccc c (full decomposition c) ≡ true
unfolding class_by_tree entry_by_tree expand points_ok tables decomposition_stepped canonical_combining_class_stepped
mapping-rows c some =
    ap₂ (λ class entry. is_fine class c (full entry c)) same_classes same_entries
    ∙ Stepped-at_points decomposition decomposition_stepped (λ e. is_empty (if_canonical e)) (λ x e. is_fine class_by_tree x (full entry_by_tree x)) refl c some

-- ---- what follows from them

-- a passed code point is a starter
passed-class : (c : ℕ) → is_passed c ≡ true → (ccc c == 0) ≡ true
passed-class c passed = elim (cases_Bool (ccc c == 0)) [
  | inl starter ↦ starter
  | inr other ↦ let clash : not true ≡ true = ap not (sym passed) ∙ class-rows c other in cc
]

-- a code point that is its own decomposition
alone-fine : (c : ℕ) → is_fine ccc c (c ∷ []) ≡ true
alone-fine c = elim (cases_Bool (is_passed c)) [
  | inl passed ↦ or_left _ _ (passed-class c passed)
  | inr other ↦ elim (cases_Bool (is_pair c)) [ inl two ↦ rw (other, two) (or_right _ _ refl) | inr one ↦ rw (other, one) (or_right _ _ refl) ]
]

-- the first jamo of a syllable is passed
jamo-class : (x : ℕ) → 0x1100 ≤ x → x < 0x1200 → (ccc x == 0) ≡ true
jamo-class x low high = passed-class x (or_left (is_passed_outside x) (is_passed_between x) (grind (arith, nat_tests)))

hangul-fine : (c : ℕ) → is_syllable c ≡ true → is_fine ccc c (decompose_hangul c) ≡ true
hangul-fine c h =
    let range = is_syllable-true c h in
    let l = jamo-class (0x1100 + (c - 0xAC00) / 588) (omega arith) (omega arith) in
    elim (cases_eq ((c - 0xAC00) % 28) 0) [
      | inl two ↦ ap (is_fine ccc c) (decompose_hangul-two c two) ∙ or_left _ _ l
      | inr three ↦ ap (is_fine ccc c) (decompose_hangul-three c three) ∙ or_left _ _ l
    ]

decompose-fine : (c : ℕ) → is_fine ccc c (decompose Nfd c) ≡ true
decompose-fine c = elim (cases_Bool (is_syllable c)) [
  | inl syllable ↦ ap (is_fine ccc c) (decompose-syllable Nfd c syllable) ∙ hangul-fine c syllable
  | inr other ↦ elim (cases_Bool (is_empty (canonical_mapping c))) [
    | inl none ↦ ap (is_fine ccc c) (decompose-final Nfd c (and_from _ _ none (not_from_false _ other))) ∙ alone-fine c
    | inr some ↦ ap (is_fine ccc c) (decompose-mapped Nfd c other some) ∙ mapping-rows c some
  ]
]

-- no decomposition is longer than four code points
pub decompose-short : (c : ℕ) → length (decompose Nfd c) ≤ 4
decompose-short c = leb-true _ 4 (and_parts (nat_le (length (decompose Nfd c)) 4) (joins ccc (growth c) (decompose Nfd c)) (decompose-fine c)).0

-- and one that begins with no starter is no longer than what it adds
pub decompose-joins : (c : ℕ) → joins ccc (growth c) (decompose Nfd c) ≡ true
decompose-joins c = (and_parts (nat_le (length (decompose Nfd c)) 4) (joins ccc (growth c) (decompose Nfd c)) (decompose-fine c)).1

-- ---- bytes of which none is a stop spell passed characters

within-true : (low high n : ℕ) → low ≤ n → n < high → is_within low high n ≡ true
within-true low high n above below = and_from _ _ (le-leb low n above) (lt-ltb n high below)

-- ---- ranges of code points that are passed

pub below_marks : (c : ℕ) → c < 0x300 → is_passed c ≡ true
below_marks c h = or_left _ _ (or_left _ _ (lt-ltb c 0x300 h))

greek : (c : ℕ) → 0x370 ≤ c → c < 0x483 → is_passed c ≡ true
greek c low high = or_left _ _ (or_right _ _ (or_left _ _ (within-true 0x370 0x483 c low high)))

cyrillic : (c : ℕ) → 0x48A ≤ c → c < 0x591 → is_passed c ≡ true
cyrillic c low high = or_left _ _ (or_right _ _ (or_right _ _ (or_left _ _ (within-true 0x48A 0x591 c low high))))

han : (c : ℕ) → 0x309B ≤ c → c < 0xA66F → is_passed c ≡ true
han c low high = or_left (is_passed_outside c) (is_passed_between c) (grind (arith, nat_tests))

hangul : (c : ℕ) → 0xAC00 ≤ c → c < 0xFB00 → is_passed c ≡ true
hangul c low high = or_left (is_passed_outside c) (is_passed_between c) (grind (arith, nat_tests))

-- ---- bytes that are stops

-- where the others are
free : (b : ℕ) → is_stop b ≡ false → (b < 0xCC) ⊎ (((0xCE ≤ b) × (b < 0xD2)) ⊎ (((0xD3 ≤ b) × (b < 0xD6)) ⊎ (((0xE4 ≤ b) × (b < 0xEA)) ⊎ ((0xEB ≤ b) × (b < 0xEE)))))
free b h = grind (arith, nat_tests)

-- a stop begins a character
stop-lead : (b : ℕ) → is_stop b ≡ true → 192 ≤ b
stop-lead b stop = grind (arith, nat_tests)

-- ---- one character

two_bytes : (c : ℕ) → 128 ≤ c → c < 2048 → is_stop (192 + c / 64) ≡ false → is_passed c ≡ true
two_bytes c low high h = elim (free (192 + c / 64) h) [
  | inl first ↦ below_marks c (omega arith)
  | inr (inl second) ↦ greek c (omega arith) (omega arith)
  | inr (inr (inl third)) ↦ cyrillic c (omega arith) (omega arith)
  | inr (inr (inr others)) ↦ absurd (omega arith)
]

three_bytes : (c : ℕ) → 2048 ≤ c → c < 65536 → is_stop (224 + c / 4096) ≡ false → is_passed c ≡ true
three_bytes c low high h = elim (free (224 + c / 4096) h) [
  | inl first ↦ absurd (omega arith)
  | inr (inl second) ↦ absurd (omega arith)
  | inr (inr (inl third)) ↦ absurd (omega arith)
  | inr (inr (inr (inl fourth))) ↦ han c (omega arith) (omega arith)
  | inr (inr (inr (inr fifth))) ↦ hangul c (omega arith) (omega arith)
]

-- the first byte of a character is a stop unless the character is passed, and continues none
record First (c byte : ℕ) : Type 0 where
  stops : is_stop byte ≡ false → is_passed c ≡ true
  leads : 128 ≤ byte → 192 ≤ byte

first_by : (c : ℕ) (p q s : List ℕ) (x y z : Bool) → ltb c 128 ≡ x → ltb c 2048 ≡ y → ltb c 65536 ≡ z
    → First c (get_or (cond x (c ∷ []) (cond y ((192 + c / 64) ∷ p) (cond z ((224 + c / 4096) ∷ q) ((240 + c / 262144) ∷ s)))) 0 0)
first_by c p q s true y z one two three = let few : c < 128 = ltb-true c 128 one in record { stops = λ _. below_marks c (omega arith); leads = λ (h : 128 ≤ c). absurd (omega arith) }
first_by c p q s false true z one two three = record { stops = two_bytes c (ltb-false c 128 one) (ltb-true c 2048 two); leads = λ _. omega arith }
first_by c p q s false false true one two three = record { stops = three_bytes c (ltb-false c 2048 two) (ltb-true c 65536 three); leads = λ _. omega arith }
first_by c p q s false false false one two three = record { stops = λ h. absurd (elim (free (240 + c / 262144) h) [ inl low ↦ omega arith | inr others ↦ omega arith ]); leads = λ _. omega arith }

first : (c : ℕ) → First c (get_or (encode c) 0 0)
unfolding encode
first c = first_by c _ _ _ (ltb c 128) (ltb c 2048) (ltb c 65536) refl refl refl

-- a character that is not passed begins with a stop
pub first-stop : (c : ℕ) → is_passed c ≡ false → is_stop (get_or (encode c) 0 0) ≡ true
first-stop c other = elim (cases_Bool (is_stop (get_or (encode c) 0 0))) [
  | inl stop ↦ stop
  | inr none ↦ let clash : true ≡ false = sym ((first c).stops none) ∙ other in cc
]

first-passed : (c : ℕ) (rest : List ℕ) → is_stop (get_or (encode c ++ rest) 0 0) ≡ false → is_passed c ≡ true
first-passed c rest h = (first c).stops (ap is_stop (sym (get_or_append_left (encode c) rest 0 0 (omega (arith, length-encode c, (len_utf8_bounds c).0)))) ∙ h)

-- ---- all characters

all-passed : (cs : List ℕ) → ((k : ℕ) → k < length (encode_utf8_all cs) → is_stop (get_or (encode_utf8_all cs) k 0) ≡ false) → list_all is_passed cs ≡ true
all-passed [] free = refl
all-passed (c ∷ cs) free =
    let size : length (encode_utf8_all (c ∷ cs)) ≡ length (encode c) + length (encode_utf8_all cs) = length-append (encode c) (encode_utf8_all cs) in
    let one : length (encode c) ≡ len_utf8 c = length-encode c in
    and_from _ _ (first-passed c (encode_utf8_all cs) (free 0 (omega (arith, (len_utf8_bounds c).0))))
    (all-passed cs (λ k h. ap is_stop (sym (get_or-append-add (encode c) (encode_utf8_all cs) k 0)) ∙ free (length (encode c) + k) (omega arith)))

last-push : (d c : ℕ) (cs : List ℕ) → last_of d (cs ++ c ∷ []) ≡ c
last-push d c [] = refl
last-push d c (b ∷ cs) = last-push b c cs

-- ---- how many bytes come before the first stop

abbrev free_len : List ℕ → ℕ
free_len = prefix_len (λ b. not (is_stop b))

-- from a place on, by the block there
by_block : (bytes : List ℕ) (at : ℕ) → at + 32 ≤ length bytes → free_len (drop at bytes) ≡ cond (eqb (free_len (chunk at 32 bytes)) 32) (32 + free_len (drop (at + 32) bytes)) (free_len (chunk at 32 bytes))
by_block bytes at room =
    ap free_len (chunk-drop at 32 bytes) ∙ prefix_len-append (λ b. not (is_stop b)) (chunk at 32 bytes) (drop (at + 32) bytes)
    ∙ ap (λ n. cond (eqb (free_len (chunk at 32 bytes)) n) (n + free_len (drop (at + 32) bytes)) (free_len (chunk at 32 bytes))) (length-chunk at 32 bytes room)

pub passed-block : (bytes : List ℕ) (at : ℕ) → at + 32 ≤ length bytes → free_len (chunk at 32 bytes) < 32 → free_len (drop at bytes) ≡ free_len (chunk at 32 bytes)
passed-block bytes at room few = by_block bytes at room ∙ cond-false _ _ _ (ne_eqb _ _ (λ (e : free_len (chunk at 32 bytes) ≡ 32). absurd (omega arith)))

pub passed-whole : (bytes : List ℕ) (at : ℕ) → at + 32 ≤ length bytes → 32 ≤ free_len (chunk at 32 bytes) → free_len (drop at bytes) ≡ 32 + free_len (drop (at + 32) bytes)
passed-whole bytes at room full = by_block bytes at room ∙ cond-true _ _ _ (eq-eqb (free_len (chunk at 32 bytes)) 32 (omega (arith, length-chunk at 32 bytes room, prefix_len-le-length (λ b. not (is_stop b)) (chunk at 32 bytes))))

-- a character ends there
pub edge : (text : List ℕ) (n : ℕ) → n ≡ free_len text → IsCharBoundary text n
edge text n is = (
  omega (arith, is, prefix_len-le-length (λ b. not (is_stop b)) text),
  λ inside _. stop-lead (get_or text n 0) (not-false _ (ap (λ m. not (is_stop (get_or text m 0))) is ∙ prefix_len_stops (λ b. not (is_stop b)) text 0 (subst (λ m. m < length text) is inside))),
)

pub ruleset passing_steps = (common_steps, passed-block, passed-whole, prefix_len-le-length, length-chunk, prefix_len-drop_no, prefix_len-drop_yes, prefix_len-drop_all)

-- the front of a text up to a stop
front-passed : (text : List ℕ) (n : ℕ) → IsUtf8 (take n text) → ((k : ℕ) → k < n → is_stop (get_or text k 0) ≡ false) → n ≤ length text → list_all is_passed (chars (take n text)) ≡ true
front-passed text n utf8 free within = grind (arith, common_steps, encodes-chars, all-passed, encode_utf8_all, length-take-le, get_or-take)

parts-of : (text front others : List ℕ) (n : ℕ) → front ≡ take n text → others ≡ drop n text → IsUtf8 front → text ≡ encode_utf8_all (chars front) ++ others
parts-of text front others n is_front is_others utf8 = sym (take-append-drop n text) ∙ ap (λ bs. bs ++ drop n text) (sym (encodes-chars front utf8 ∙ is_front)) ∙ ap (λ bs. encode_utf8_all (chars front) ++ bs) (sym is_others)

-- a text without its last character
utf8-before : (front before : List ℕ) (end : ℕ) → IsUtf8 front → front ≡ before ++ encode end → IsUtf8 before
utf8-before front before end utf8 ends =
    let n = length before in
    let size : length front ≡ length before + length (encode end) = ap length ends ∙ length-append before (encode end) in
    let n_is : n ≡ n + 0 = omega arith in
    let byte : get_or front n 0 ≡ get_or (encode end) 0 0 = ap (λ l. get_or l n 0) ends ∙ ap (λ k. get_or (before ++ encode end) k 0) n_is ∙ get_or-append-add before (encode end) 0 0 in
    let edge : IsCharBoundary front n = (omega (arith, size), λ _ high. subst (λ b. 192 ≤ b) (sym byte) ((first end).leads (subst (λ b. 128 ≤ b) byte high))) in
    subst IsUtf8 (ap (take n) ends ∙ take_at before (encode end) n refl) (IsUtf8-take front n utf8 edge)

pub passes-some : (text front others before : List ℕ) (n last end : ℕ) → front ≡ take n text → others ≡ drop n text → IsUtf8 text → n ≡ free_len text → front ≡ before ++ encode end
    → Passes text last others end
passes-some text front others before n last end is_front is_others whole_utf8 is ends =
    let utf8 : IsUtf8 front = subst IsUtf8 (sym is_front) (IsUtf8-take text n whole_utf8 (edge text n is)) in
    let free : (k : ℕ) → k < n → is_stop (get_or text k 0) ≡ false = λ k h. not-true _ (prefix_len_passes (λ b. not (is_stop b)) text k 0 (subst (λ m. k < m) is h)) in
    let earlier : IsUtf8 before = utf8-before front before end utf8 ends in
    let whole : encode_utf8_all (chars before ++ end ∷ []) ≡ front = encodes-append (chars before) (end ∷ []) ∙ ap (λ bs. encode_utf8_all (chars before) ++ bs) (append-nil (encode end)) ∙ ap (λ bs. bs ++ encode end) (encodes-chars before earlier) ∙ sym ends in
    let spelt : chars before ++ end ∷ [] ≡ chars front = chars_from_encodes (chars before ++ end ∷ []) front utf8 whole in
    record {
      front = chars front;
      parts = parts-of text front others n is_front is_others utf8;
      passed = ap (λ bs. list_all is_passed (chars bs)) is_front ∙ front-passed text n (subst IsUtf8 is_front utf8) free (edge text n is).0;
      end_is = sym (last-push last end (chars before)) ∙ ap (last_of last) spelt;
    }
