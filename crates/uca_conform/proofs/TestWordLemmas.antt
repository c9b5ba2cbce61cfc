-- The words of a test line, from its front on, and the digits that they begin with.
use Rattle.std.proofs.Common.{◌⊎◌, ◌≡◌, ℕ, suc, ◌+◌, ◌*◌, ◌^◌, ◌<◌, ◌≤◌, Bool, true, false, not, ◌||◌, ◌==◌, nat_le, List, [], ◌∷◌, ◌++◌, length, take, drop, get_or, Option, Some, None, refl, sym, ap, ap₂, ◌∙◌, arith, inl, inr, append_assoc, append-nil, length-append}
use Rattle.std.proofs.lemmas.Bool.{cases_Bool, cond-true, cond-false, eqb-true}
use Rattle.std.proofs.lemmas.Bool.Decides.{nat_tests}
use Rattle.std.proofs.Math.Nat.{pow-suc}
use Rattle.std.specs.Char.{digit_value, is_digit}
use Rattle.std.specs.List.{AllByRecursion, before_first, position_or_len}
use Rattle.std.specs.Option.{option_and_then}
use Rattle.uca_io.proofs.WordLemmas.{words-first, words-skip}
use Rattle.uca_model.specs.TableText.{is_blank, is_four_to_six, number, number_after, skip_blanks, words}
use Rattle.uca_model.specs.TestFile.{ends_points, only_point, test_point}
use Rattle.uca_conform.specs.TestWords.{ends_at, ends_word, said_words, AreDigits, BeginsWithDigits, HasBadWord, IsNextPoint}

-- ---- bytes

-- a byte that ends no word
abbrev IsInWord : ℕ → Type 0
IsInWord b = ends_at b ≡ false

-- a blank does not end the code points
blank-inside : (b : ℕ) → is_blank b ≡ true → ends_points b ≡ false
blank-inside b blank = elim (cases_Bool (b == 32)) [
  | inl space ↦ (let at : b ≡ 32 = eqb-true b 32 space in ap ends_points at)
  | inr other ↦ elim (cases_Bool (b == 9)) [
    | inl tab ↦ (let at : b ≡ 9 = eqb-true b 9 tab in ap ends_points at)
    | inr neither ↦ (let clash : true ≡ false = sym blank ∙ ap₂ (λ (x y : Bool). x || y) other neither in absurd cc)
  ]
]

-- a digit ends no word
digit-inside : (b : ℕ) → is_digit b 16 ≡ true → IsInWord b
digit-inside b digit =
    ap₂ (λ (x y : Bool). x || y) (ap₂ (λ (x y : Bool). x || y) (is_not 32 refl) (is_not 9 refl)) (ap₂ (λ (x y : Bool). x || y) (is_not 59 refl) (is_not 35 refl))
  where
    is_not : (n : ℕ) → is_digit n 16 ≡ false → (b == n) ≡ false
    is_not n other = elim (cases_Bool (b == n)) [
      | inl same ↦ (let clash : true ≡ false = sym digit ∙ ap (λ c. is_digit c 16) (eqb-true b n same) ∙ other in absurd cc)
      | inr differ ↦ differ
    ]

inside-parts : (b : ℕ) → IsInWord b → (is_blank b ≡ false) × (ends_points b ≡ false)
inside-parts b inside = elim (cases_Bool (is_blank b)) [
  | inl blank ↦ (let clash : true ≡ false = sym (ap (λ (x : Bool). x || ends_points b) blank) ∙ inside in absurd cc)
  | inr other ↦ (other, sym (ap (λ (x : Bool). x || ends_points b) other) ∙ inside)
]

-- ---- what comes before the end of the code points

before-inside : (b : ℕ) (bs : List ℕ) → ends_points b ≡ false → before_first ends_points (b ∷ bs) ≡ b ∷ before_first ends_points bs
before-inside b bs inside =
    let n : ℕ = position_or_len ends_points bs in
    let one : position_or_len ends_points (b ∷ bs) ≡ 1 + n = cond-true _ _ _ (ap not inside) in
    let more : 1 + n ≡ suc n = omega arith in
    ap (λ k. take k (b ∷ bs)) (one ∙ more)

before-end : (b : ℕ) (bs : List ℕ) → ends_points b ≡ true → before_first ends_points (b ∷ bs) ≡ []
before-end b bs ends =
    let none : position_or_len ends_points (b ∷ bs) ≡ 0 = cond-false _ _ _ (ap not ends) in
    ap (λ k. take k (b ∷ bs)) none

before-word : (word rest : List ℕ) → AllByRecursion IsInWord word → before_first ends_points (word ++ rest) ≡ word ++ before_first ends_points rest
before-word [] rest all = refl
before-word (b ∷ word) rest all = before-inside b (word ++ rest) (inside-parts b all.0).1 ∙ ap (λ l. b ∷ l) (before-word word rest all.1)

-- ---- words

blank-at : (b : ℕ) (bs : List ℕ) → is_blank b ≡ true → position_or_len is_blank (b ∷ bs) ≡ 0
blank-at b bs blank = cond-false _ _ _ (ap not blank)

blank-later : (b : ℕ) (bs : List ℕ) → is_blank b ≡ false → position_or_len is_blank (b ∷ bs) ≡ 1 + position_or_len is_blank bs
blank-later b bs other = cond-true _ _ _ (ap not other)

blank-within : (bs : List ℕ) → position_or_len is_blank bs ≤ length bs
blank-within [] = omega arith
blank-within (b ∷ bs) = elim (cases_Bool (is_blank b)) [
  | inl blank ↦ omega (arith, blank-at b bs blank)
  | inr other ↦ omega (arith, blank-later b bs other, blank-within bs)
]

position-word : (word ys : List ℕ) → AllByRecursion IsInWord word → position_or_len is_blank (word ++ ys) ≡ length word + position_or_len is_blank ys
position-word [] ys all = omega arith
position-word (b ∷ word) ys all = omega (arith, blank-later b (word ++ ys) (inside-parts b all.0).0, position-word word ys all.1)

take-word : (word ys : List ℕ) (k : ℕ) → take (length word + k) (word ++ ys) ≡ word ++ take k ys
take-word [] ys k = let none : 0 + k ≡ k = omega arith in ap (λ n. take n ys) none
take-word (b ∷ word) ys k =
    let more : suc (length word) + k ≡ suc (length word + k) = omega arith in
    ap (λ n. take n (b ∷ (word ++ ys))) more ∙ ap (λ l. b ∷ l) (take-word word ys k)

drop-word : (word ys : List ℕ) (k : ℕ) → drop (length word + k) (word ++ ys) ≡ drop k ys
drop-word [] ys k = let none : 0 + k ≡ k = omega arith in ap (λ n. drop n ys) none
drop-word (b ∷ word) ys k =
    let more : suc (length word) + k ≡ suc (length word + k) = omega arith in
    ap (λ n. drop n (b ∷ (word ++ ys))) more ∙ drop-word word ys k

-- the first word of bytes that begin with a part of it
words-word : (word ys : List ℕ) → AllByRecursion IsInWord word → 0 < length word + position_or_len is_blank ys
    → words (word ++ ys) ≡ (word ++ take (position_or_len is_blank ys) ys) ∷ words (drop (position_or_len is_blank ys) ys)
words-word word ys all some =
    let p : ℕ = position_or_len is_blank ys in
    let within : length word + p ≤ length (word ++ ys) = omega (arith, length-append word ys, blank-within ys) in
    words-first (word ++ ys) (length word + p) (sym (position-word word ys all)) within some
    ∙ ap₂ (λ (w r : List ℕ). w ∷ words r) (take-word word ys p) (drop-word word ys p)

-- ---- the words of a line's code points

words-blank : (b : ℕ) (bs : List ℕ) → is_blank b ≡ true → words (b ∷ bs) ≡ words bs
words-blank b bs blank = sym (words-skip (b ∷ bs)) ∙ ap words (cond-true _ _ _ blank) ∙ words-skip bs

said-blank : (b : ℕ) (bs : List ℕ) → is_blank b ≡ true → said_words (b ∷ bs) ≡ said_words bs
said-blank b bs blank = ap words (before-inside b bs (blank-inside b blank)) ∙ words-blank b (before_first ends_points bs) blank

pub said-skip : (line : List ℕ) → said_words (skip_blanks line) ≡ said_words line
said-skip [] = refl
said-skip (b ∷ bs) = elim (cases_Bool (is_blank b)) [
  | inl blank ↦ ap said_words (cond-true _ _ _ blank) ∙ said-skip bs ∙ sym (said-blank b bs blank)
  | inr other ↦ ap said_words (cond-false _ _ _ other)
]

-- what is left after blanks begins with none
skip-head : (line : List ℕ) (b : ℕ) (bs : List ℕ) → skip_blanks line ≡ b ∷ bs → is_blank b ≡ false
skip-head [] b bs is = absurd cc
skip-head (c ∷ line) b bs is = elim (cases_Bool (is_blank c)) [
  | inl blank ↦ skip-head line b bs (sym (cond-true _ _ _ blank) ∙ is)
  | inr other ↦ (let same : c ≡ b = ap (λ (l : List ℕ). get_or l 0 0) (sym (cond-false _ _ _ other) ∙ is) in ap is_blank (sym same) ∙ other)
]

-- where a word ends, none of it is left
ends-here : (rest : List ℕ) → ends_word rest ≡ true → position_or_len is_blank (before_first ends_points rest) ≡ 0
ends-here [] ends = refl
ends-here (b ∷ bs) ends = elim (cases_Bool (is_blank b)) [
  | inl blank ↦ ap (position_or_len is_blank) (before-inside b bs (blank-inside b blank)) ∙ blank-at b (before_first ends_points bs) blank
  | inr other ↦ ap (position_or_len is_blank) (before-end b bs (sym (ap (λ (x : Bool). x || ends_points b) other) ∙ ends))
]

said-word : (word rest : List ℕ) → AllByRecursion IsInWord word → 0 < length word → ends_word rest ≡ true → said_words (word ++ rest) ≡ word ∷ said_words rest
said-word word rest all some ends =
    let ys : List ℕ = before_first ends_points rest in
    let none : position_or_len is_blank ys ≡ 0 = ends-here rest ends in
    ap words (before-word word rest all) ∙ words-word word ys all (omega (arith, some, none))
    ∙ ap (λ n. (word ++ take n ys) ∷ words (drop n ys)) none ∙ ap (λ (w : List ℕ). w ∷ words ys) (append-nil word)

-- what is left of a word that goes on with a byte, and the words after it
abbrev rest_of_word : List ℕ → List ℕ
rest_of_word bs = take (position_or_len is_blank (before_first ends_points bs)) (before_first ends_points bs)

abbrev words_after : List ℕ → List (List ℕ)
words_after bs = words (drop (position_or_len is_blank (before_first ends_points bs)) (before_first ends_points bs))

said-longer : (word : List ℕ) (b : ℕ) (bs : List ℕ) → AllByRecursion IsInWord word → IsInWord b → said_words (word ++ b ∷ bs) ≡ (word ++ b ∷ rest_of_word bs) ∷ words_after bs
said-longer word b bs all inside =
    let parts = inside-parts b inside in
    let ys : List ℕ = before_first ends_points bs in
    let p : ℕ = position_or_len is_blank ys in
    let later : position_or_len is_blank (b ∷ ys) ≡ 1 + p = blank-later b ys parts.0 in
    let more : 1 + p ≡ suc p = omega arith in
    ap words (before-word word (b ∷ bs) all ∙ ap (λ l. word ++ l) (before-inside b bs parts.1)) ∙ words-word word (b ∷ ys) all (omega (arith, later))
    ∙ ap (λ n. (word ++ take n (b ∷ ys)) ∷ words (drop n (b ∷ ys))) (later ∙ more)

said-nothing : (line : List ℕ) (rest : List ℕ) → skip_blanks line ≡ rest → ends_word rest ≡ true → said_words rest ≡ []
said-nothing line [] is ends = refl
said-nothing line (b ∷ bs) is ends =
    let ends_line : ends_points b ≡ true = sym (ap (λ (x : Bool). x || ends_points b) (skip-head line b bs is)) ∙ ends in
    ap words (before-end b bs ends_line)

-- ---- digits

digits-inside : (n v : ℕ) (word : List ℕ) → number_after n word ≡ Some v → AllByRecursion IsInWord word
digits-inside n v [] is = tt
digits-inside n v (b ∷ word) is = elim (cases_Bool (is_digit b 16)) [
  | inl digit ↦ (digit-inside b digit, digits-inside (n * 16 + digit_value b) v word (sym (cond-true _ _ _ digit) ∙ is))
  | inr other ↦ (let none : (let o : Option ℕ = None in o) ≡ Some v = sym (cond-false _ _ _ other) ∙ is in absurd cc)
]

-- one more digit
number-push : (n v : ℕ) (word : List ℕ) (b : ℕ) → number_after n word ≡ Some v → is_digit b 16 ≡ true → number_after n (word ++ b ∷ []) ≡ Some (v * 16 + digit_value b)
number-push n v [] b is digit = cond-true _ _ _ digit ∙ (let same : n ≡ v = ap (λ (o : Option ℕ). said o) is in ap (λ m. Some (m * 16 + digit_value b)) same)
  where
    said : Option ℕ → ℕ
    said None = 0
    said (Some m) = m
number-push n v (c ∷ word) b is digit = elim (cases_Bool (is_digit c 16)) [
  | inl own ↦ cond-true _ _ _ own ∙ number-push (n * 16 + digit_value c) v word b (sym (cond-true _ _ _ own) ∙ is) digit
  | inr other ↦ (let none : (let o : Option ℕ = None in o) ≡ Some v = sym (cond-false _ _ _ other) ∙ is in absurd cc)
]

-- a byte that is no digit
number-other : (n : ℕ) (word : List ℕ) (b : ℕ) (bs : List ℕ) → is_digit b 16 ≡ false → number_after n (word ++ b ∷ bs) ≡ None
number-other n [] b bs other = cond-false _ _ _ other
number-other n (c ∷ word) b bs other = elim (cases_Bool (is_digit c 16)) [
  | inl own ↦ cond-true _ _ _ own ∙ number-other (n * 16 + digit_value c) word b bs other
  | inr none ↦ cond-false _ _ _ none
]

-- ---- code points

no_number : (word : List ℕ) → number word ≡ None → None ≡ test_point word
unfolding test_point
no_number word none = elim (cases_Bool (is_four_to_six (length word))) [
  | inl in_range ↦ sym (cond-true _ _ _ in_range ∙ ap (option_and_then only_point) none)
  | inr other ↦ sym (cond-false _ _ _ other)
]

no_length : (word : List ℕ) → is_four_to_six (length word) ≡ false → None ≡ test_point word
unfolding test_point
no_length word other = sym (cond-false _ _ _ other)

-- a word that goes on after its digits
longer-bad : (word : List ℕ) (value len b : ℕ) (bs : List ℕ) → AreDigits word value len → (is_digit b 16 ≡ false) ⊎ (len ≡ 6) → None ≡ test_point (word ++ b ∷ bs)
longer-bad word value len b bs digits stops = elim stops [
  | inl other ↦ no_number (word ++ b ∷ bs) (number-other 0 word b bs other)
  | inr six ↦
      (let long : 7 ≤ length (word ++ b ∷ bs) = omega (arith, length-append word (b ∷ bs), digits.size, six) in
      let out : is_four_to_six (length (word ++ b ∷ bs)) ≡ false = grind (arith, nat_tests) in
      no_length (word ++ b ∷ bs) out)
]

pub point-few : (word : List ℕ) (value len : ℕ) → AreDigits word value len → len < 4 → None ≡ test_point word
point-few word value len digits few =
    let short : length word < 4 = omega (arith, digits.size) in
    let out : is_four_to_six (length word) ≡ false = grind (arith, nat_tests) in
    no_length word out

pub point-large : (word : List ℕ) (value len : ℕ) → AreDigits word value len → 0x10FFFF < value → None ≡ test_point word
unfolding test_point
point-large word value len digits large =
    let out : nat_le value 0x10FFFF ≡ false = grind (arith, nat_tests) in
    let none : only_point value ≡ None = cond-false _ _ _ out in
    elim (cases_Bool (is_four_to_six (length word))) [
      | inl in_range ↦ sym (cond-true _ _ _ in_range ∙ ap (option_and_then only_point) digits.said ∙ none)
      | inr other ↦ sym (cond-false _ _ _ other)
    ]

pub point-said : (word : List ℕ) (value len : ℕ) → AreDigits word value len → 4 ≤ len → value ≤ 0x10FFFF → Some value ≡ test_point word
unfolding test_point
point-said word value len digits long small =
    let low : 4 ≤ length word = omega (arith, digits.size) in
    let high : length word ≤ 6 = omega (arith, digits.size, digits.few) in
    let in_range : is_four_to_six (length word) ≡ true = grind (arith, nat_tests) in
    let within : nat_le value 0x10FFFF ≡ true = grind (arith, nat_tests) in
    let one : only_point value ≡ Some value = cond-true _ _ _ within in
    sym (cond-true _ _ _ in_range ∙ ap (option_and_then only_point) digits.said ∙ one)

-- ---- digits one by one

-- these were read
pub record DigitsSoFar (bytes : List ℕ) (value len : ℕ) (rest : List ℕ) : Type 0 where
  pub word : List ℕ
  pub parts : bytes ≡ word ++ rest
  pub digits : AreDigits word value len
  pub small : value < 16 ^ len

power-next : (n : ℕ) → 16 ^ (n + 1) ≡ 16 ^ n * 16
power-next n = let more : n + 1 ≡ suc n = omega arith in ap (λ k. 16 ^ k) more ∙ pow-suc 16 n

pub digits-push : (bytes rest others : List ℕ) (value len first digit : ℕ) → DigitsSoFar bytes value len rest → rest ≡ first ∷ others → is_digit first 16 ≡ true → digit ≡ digit_value first → digit < 16 → len < 6
    → DigitsSoFar bytes (value * 16 + digit) (len + 1) others
digits-push bytes rest others value len first digit so_far step is_one value_is small room = record {
  word = so_far.word ++ first ∷ [];
  parts = so_far.parts ∙ ap (λ l. so_far.word ++ l) step ∙ sym (append_assoc so_far.word (first ∷ []) others);
  digits = record {
    said = number-push 0 value so_far.word first so_far.digits.said is_one ∙ ap (λ d. Some (value * 16 + d)) (sym value_is);
    size = length-append so_far.word (first ∷ []) ∙ ap (λ n. n + 1) so_far.digits.size;
    few = omega (arith, room);
  };
  small = omega (arith, so_far.small, power-next len, small);
}

pub digits-read : (bytes rest : List ℕ) (value len : ℕ) → DigitsSoFar bytes value len rest → ((b : ℕ) (more : List ℕ) → rest ≡ b ∷ more → (is_digit b 16 ≡ false) ⊎ (len ≡ 6)) → BeginsWithDigits bytes value len rest
digits-read bytes rest value len so_far stops = record { word = so_far.word; parts = so_far.parts; digits = so_far.digits; stops = stops }

-- ---- the next code point

module _ (line text rest : List ℕ) (value len : ℕ) (text_is : text ≡ skip_blanks line) (begins : BeginsWithDigits text value len rest) where
  inside : AllByRecursion IsInWord begins.word
  inside = digits-inside 0 value begins.word begins.digits.said

  same : said_words line ≡ said_words (begins.word ++ rest)
  same = sym (said-skip line) ∙ ap said_words (sym text_is ∙ begins.parts)

  -- a byte follows that ends no word
  pub next-longer : ends_word rest ≡ false → HasBadWord line
  next-longer goes_on = by_rest rest refl
    where
      by_rest : (bytes : List ℕ) → rest ≡ bytes → HasBadWord line
      by_rest [] is = (let clash : false ≡ true = sym goes_on ∙ ap ends_word is in absurd cc)
      by_rest (b ∷ bs) is =
          let in_word : IsInWord b = sym (ap ends_word is) ∙ goes_on in
          record {
            word = begins.word ++ b ∷ rest_of_word bs;
            others = words_after bs;
            split = same ∙ ap (λ l. said_words (begins.word ++ l)) is ∙ said-longer begins.word b bs inside in_word;
            said = longer-bad begins.word value len b (rest_of_word bs) begins.digits (begins.stops b bs is);
          }

  no_word : len ≡ 0 → begins.word ≡ []
  no_word none = empty begins.word (begins.digits.size ∙ none)
    where
      empty : (l : List ℕ) → length l ≡ 0 → l ≡ []
      empty [] is = refl
      empty (b ∷ bs) is = absurd (omega (arith, is))

  -- there is no digit
  pub next-none : ends_word rest ≡ true → len ≡ 0 → said_words line ≡ []
  next-none ends none =
      let all : text ≡ rest = begins.parts ∙ ap (λ l. l ++ rest) (no_word none) in
      same ∙ ap (λ l. said_words (l ++ rest)) (no_word none) ∙ said-nothing line rest (sym text_is ∙ all) ends

  whole : ends_word rest ≡ true → (len ≡ 0 → ⊥) → said_words line ≡ begins.word ∷ said_words rest
  whole ends some = same ∙ said-word begins.word rest inside (omega (arith, begins.digits.size, some)) ends

  -- the digits say no code point
  pub next-bad : ends_word rest ≡ true → (len ≡ 0 → ⊥) → None ≡ test_point begins.word → HasBadWord line
  next-bad ends some said = record { word = begins.word; others = said_words rest; split = whole ends some; said = said }

  -- they say one
  pub next-said : (point : ℕ) → ends_word rest ≡ true → (len ≡ 0 → ⊥) → 4 ≤ len → length text ≤ length line → Some point ≡ test_point begins.word → IsNextPoint line point rest
  next-said point ends some long shorter said = record {
    word = begins.word;
    split = whole ends some;
    said = said;
    shorter = omega (arith, ap (length {A = ℕ}) begins.parts, length-append begins.word rest, begins.digits.size, long, shorter);
  }
