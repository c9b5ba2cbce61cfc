-- The digits of a canonical line, as a reader reads them.
use Rattle.std.proofs.Common.{◌≡◌, ◌⊎◌, inl, inr, ℕ, ◌+◌, ◌*◌, ◌/◌, ◌%◌, ◌<◌, ◌≤◌, ◌==◌, nat_lt, Bool, true, false, List, [], ◌∷◌, ◌++◌, length, Some, None, refl, ap, ◌∙◌, arith}
use Rattle.std.proofs.lemmas.Bool.{cond-true, le-leb, and_from}
use Rattle.std.proofs.lemmas.Bool.Decides.{nat_tests}
use Rattle.std.specs.Bool.{if◌then◌else◌}
use Rattle.std.specs.Char.{digit_value, IsScalar}
use Rattle.std.specs.List.{AllByRecursion}
use Rattle.std.specs.Option.{option_and_then}
use lib.Utf8.{scalar_cases}
use Rattle.uca_model.specs.TableText as text
use Rattle.uca_model.specs.TableText.{number_after, number, is_four_to_six, only_scalar, code_point, is_blank, is_semicolon, is_right_bracket, ends_point, skip_blanks}
use Rattle.uca_model.specs.Output.{hex_digit}
use Rattle.uca_model.specs.CanonicalText.{four_digits, plane_text, point_text}
use Rattle.uca_model.proofs.CanonicalLines.{digit_value-hex_digit, is_digit-hex_digit, length-point_text}
use Rattle.uca_io.proofs.WordLemmas.{skip-other}

-- Numbers

-- one digit after a number
one_digit : (n d : ℕ) (bytes : List ℕ) → d < 16 → number_after n (hex_digit d ∷ bytes) ≡ number_after (n * 16 + d) bytes
one_digit n d bytes h =
    ap (λ (b : Bool). if b then number_after (n * 16 + digit_value (hex_digit d)) bytes else None) (is_digit-hex_digit d h)
    ∙ ap (λ (v : ℕ). number_after (n * 16 + v) bytes) (digit_value-hex_digit d h)

-- four digits after a number
four_more : (m n : ℕ) → n < 0x10000 → number_after m (four_digits n) ≡ Some (m * 0x10000 + n)
four_more m n h =
    let value : (((m * 16 + n / 0x1000) * 16 + n / 0x100 % 16) * 16 + n / 0x10 % 16) * 16 + n % 16 ≡ m * 0x10000 + n = omega arith in
    let last : List ℕ = hex_digit (n % 16) ∷ [] in
    let third : List ℕ = hex_digit (n / 0x10 % 16) ∷ last in
    let second : List ℕ = hex_digit (n / 0x100 % 16) ∷ third in
    one_digit m (n / 0x1000) second (omega arith) ∙ one_digit (m * 16 + n / 0x1000) (n / 0x100 % 16) third (omega arith) ∙ one_digit ((m * 16 + n / 0x1000) * 16 + n / 0x100 % 16) (n / 0x10 % 16) last (omega arith)
    ∙ one_digit (((m * 16 + n / 0x1000) * 16 + n / 0x100 % 16) * 16 + n / 0x10 % 16) (n % 16) [] (omega arith) ∙ ap Some value

plane_by : (plane : ℕ) (bytes : List ℕ) (none one : Bool) → plane < 256 → (plane == 0) ≡ none → nat_lt plane 16 ≡ one → number_after 0 ((if none then [] else if one then hex_digit plane ∷ [] else hex_digit (plane / 16) ∷ hex_digit (plane % 16) ∷ []) ++ bytes) ≡ number_after plane bytes
plane_by plane bytes true one h e f = let is : 0 ≡ plane = grind (arith, nat_tests) in ap (λ (n : ℕ). number_after n bytes) is
plane_by plane bytes false true h e f = let small : plane < 16 = grind (arith, nat_tests) in one_digit 0 plane bytes small ∙ ap (λ (n : ℕ). number_after n bytes) (omega arith)
plane_by plane bytes false false h e f =
    let value : (0 * 16 + plane / 16) * 16 + plane % 16 ≡ plane = omega arith in
    one_digit 0 (plane / 16) (hex_digit (plane % 16) ∷ bytes) (omega arith) ∙ one_digit (0 * 16 + plane / 16) (plane % 16) bytes (omega arith) ∙ ap (λ (n : ℕ). number_after n bytes) value

-- the digits of a code point say it
point_number : (c : ℕ) → c < 0x110000 → number (point_text c) ≡ Some c
unfolding point_text
point_number c h =
    let value : c / 0x10000 * 0x10000 + c % 0x10000 ≡ c = omega arith in
    plane_by (c / 0x10000) (four_digits (c % 0x10000)) _ _ (omega arith) refl refl ∙ four_more (c / 0x10000) (c % 0x10000) (omega arith) ∙ ap Some value

-- four digits say their number
pub four_digits-said : (n : ℕ) → n < 0x10000 → text.four_digits (four_digits n) ≡ Some n
unfolding text.four_digits
four_digits-said n h = four_more 0 n h ∙ ap Some (omega arith)

pub scalar-below : (c : ℕ) → IsScalar c → c < 0x110000
scalar-below c is = elim (scalar_cases c is) [ inl low ↦ omega arith | inr high ↦ omega arith ]

-- the text of a code point says it
pub code_point-said : (c : ℕ) → IsScalar c → code_point (point_text c) ≡ Some c
unfolding code_point
code_point-said c is =
    let lengths : (4 ≤ length (point_text c)) × (length (point_text c) ≤ 6) = length-point_text c in
    let few : is_four_to_six (length (point_text c)) ≡ true = and_from _ _ (le-leb 4 (length (point_text c)) lengths.0) (le-leb (length (point_text c)) 6 lengths.1) in
    cond-true _ _ _ few ∙ ap (option_and_then only_scalar) (point_number c (scalar-below c is)) ∙ cond-true _ _ _ is

-- Bytes

-- a byte that is an upper-case hexadecimal digit, as far as no punctuation is
pub record IsHex (b : ℕ) : Type 0 where
  pub low : 48 ≤ b
  pub gap : (b < 58) ⊎ (64 < b)
  pub high : b < 71

hex_by : (n : ℕ) (small : Bool) → n < 16 → nat_lt n 10 ≡ small → IsHex (if small then 48 + n else 55 + n)
hex_by n true h e = let s : n < 10 = grind (arith, nat_tests) in record { low = omega arith; gap = inl (omega arith); high = omega arith }
hex_by n false h e = let s : 10 ≤ n = grind (arith, nat_tests) in record { low = omega arith; gap = inr (omega arith); high = omega arith }

pub is_hex : (n : ℕ) → n < 16 → IsHex (hex_digit n)
is_hex n h = hex_by n _ h refl

pub hex-append : (xs ys : List ℕ) → AllByRecursion IsHex xs → AllByRecursion IsHex ys → AllByRecursion IsHex (xs ++ ys)
hex-append [] ys p q = q
hex-append (x ∷ xs) ys p q = (p.0, hex-append xs ys p.1 q)

pub hex-four : (n : ℕ) → n < 0x10000 → AllByRecursion IsHex (four_digits n)
hex-four n h = (is_hex _ (omega arith), (is_hex _ (omega arith), (is_hex _ (omega arith), (is_hex _ (omega arith), tt))))

hex-plane : (plane : ℕ) (none one : Bool) → plane < 256 → nat_lt plane 16 ≡ one → AllByRecursion IsHex (if none then [] else if one then hex_digit plane ∷ [] else hex_digit (plane / 16) ∷ hex_digit (plane % 16) ∷ [])
hex-plane plane true one h e = tt
hex-plane plane false true h e = let s : plane < 16 = grind (arith, nat_tests) in (is_hex plane s, tt)
hex-plane plane false false h e = (is_hex _ (omega arith), (is_hex _ (omega arith), tt))

-- the text of a code point has digits only
pub hex-point : (c : ℕ) → c < 0x110000 → AllByRecursion IsHex (point_text c)
unfolding point_text
hex-point c h = hex-append (plane_text (c / 0x10000)) (four_digits (c % 0x10000)) (hex-plane (c / 0x10000) _ _ (omega arith) refl) (hex-four (c % 0x10000) (omega arith))

-- a test that no digit passes
pub no_hex : (p : ℕ → Bool) → ((b : ℕ) → IsHex b → p b ≡ false) → (xs : List ℕ) → AllByRecursion IsHex xs → AllByRecursion (λ b. p b ≡ false) xs
no_hex p fails [] hex = tt
no_hex p fails (x ∷ xs) hex = (fails x hex.0, no_hex p fails xs hex.1)

pub hex_no_blank : (b : ℕ) → IsHex b → is_blank b ≡ false
hex_no_blank b hex = grind (arith, nat_tests, hex.low)

pub hex_no_semicolon : (b : ℕ) → IsHex b → is_semicolon b ≡ false
hex_no_semicolon b hex = grind (arith, nat_tests, hex.gap)

pub hex_no_bracket : (b : ℕ) → IsHex b → is_right_bracket b ≡ false
hex_no_bracket b hex = grind (arith, nat_tests, hex.high)

pub hex_ends_no_point : (b : ℕ) → IsHex b → ends_point b ≡ false
hex_ends_no_point b hex = grind (arith, nat_tests, hex.low, hex.gap)

-- bytes that begin with a digit
abbrev pub BeginsHex : List ℕ → Type 0
BeginsHex [] = ⊥
BeginsHex (b ∷ bytes) = IsHex b

pub begins-append : (xs ys : List ℕ) → BeginsHex xs → BeginsHex (xs ++ ys)
begins-append [] ys h = absurd h
begins-append (x ∷ xs) ys h = h

begins_some : (xs : List ℕ) → AllByRecursion IsHex xs → 0 < length xs → BeginsHex xs
begins_some [] hex some = absurd (omega arith)
begins_some (x ∷ xs) hex some = hex.0

pub begins-point : (c : ℕ) → c < 0x110000 → BeginsHex (point_text c)
begins-point c h = begins_some (point_text c) (hex-point c h) (omega (arith, (length-point_text c).0))

pub skip-hex : (xs : List ℕ) → BeginsHex xs → skip_blanks xs ≡ xs
skip-hex [] h = absurd h
skip-hex (x ∷ xs) h = skip-other x xs (hex_no_blank x h)
