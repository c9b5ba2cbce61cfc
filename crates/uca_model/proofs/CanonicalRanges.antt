-- The line of a range of implicit weights says the range.
use Rattle.std.proofs.Common.{◌≡◌, ℕ, ◌%◌, ◌<◌, true, false, List, ◌∷◌, ◌++◌, codes, refl, ap, ap₂, ◌∙◌, append_assoc, arith}
use Rattle.std.specs.Bool.{if◌then◌else◌}
use Rattle.std.specs.Char.{IsScalar}
use Rattle.std.specs.List.{AllByRecursion}
use Rattle.std.specs.Option.{ok_or}
use Rattle.std.specs.Str.{bytes_eq}
use Rattle.std.specs.Prelude.{Result, Ok, Err, Option}
use Rattle.uca_weights.specs.declared.range.Range.{Range}
use Rattle.uca_model.specs.Table.{IsRange}
use Rattle.uca_model.specs.TableText as text
use Rattle.uca_model.specs.TableText.{◌>>=◌, Cause, Statement, version, range, bad_directive, bad_code_point, is_blank, skip_blanks, code_point, version_word, range_word, ends_point, range_end, range_base, two_stops, range_of_text, some_text, directive, statement_of, statement}
use Rattle.uca_model.specs.CanonicalText.{four_digits, point_text, ends_text}
use Rattle.uca_model.proofs.CanonicalLines.{range_said, plain-range, statement-plain}
use Rattle.uca_model.proofs.CanonicalDigits.{is_hex, no_hex, hex_no_blank, hex_ends_no_point, hex-point, code_point-said, four_digits-said, scalar-below, begins-append, begins-point, skip-hex}
use Rattle.uca_model.proofs.ByteCuts.{before_at, from_at, ends-append}
use Rattle.uca_model.proofs.TextSteps.{step_done}

-- a code point before what ends it
end_said : (c b : ℕ) (rest : List ℕ) → IsScalar c → ends_point b ≡ true → range_end (point_text c ++ b ∷ rest) ≡ Ok (c, b ∷ rest)
unfolding range_end
end_said c b rest is ends =
    let clear = no_hex ends_point hex_ends_no_point (point_text c) (hex-point c (scalar-below c is)) in
    ap₂ (λ (word : List ℕ) (left : List ℕ). ok_or (code_point word) bad_code_point >>= (λ d. Ok (d, left))) (before_at ends_point (point_text c) b rest clear ends) (from_at ends_point (point_text c) b rest clear ends)
    ∙ ap (λ (o : Option ℕ). ok_or o bad_code_point >>= (λ d. Ok (d, b ∷ rest))) (code_point-said c is)

stops_said : (rest : List ℕ) → two_stops (46 ∷ 46 ∷ rest) ≡ Ok rest
unfolding two_stops
stops_said rest = refl

base_said : (base : ℕ) → base < 0x10000 → range_base (59 ∷ 32 ∷ four_digits base) ≡ Ok base
unfolding range_base
base_said base h =
    ap (λ (l : List ℕ). ok_or (text.four_digits l) bad_directive) (skip-hex (four_digits base) (is_hex _ (omega arith))) ∙ ap (λ (o : Option ℕ). ok_or o bad_directive) (four_digits-said base h)

-- after the word and its blank
range_of_text-said : (r : Range) → IsRange r → range_of_text (32 ∷ point_text r.first ++ 46 ∷ 46 ∷ (point_text r.last ++ 59 ∷ 32 ∷ four_digits r.base)) ≡ Ok (range r)
unfolding range_of_text
range_of_text-said r is =
    let base : List ℕ = 59 ∷ 32 ∷ four_digits r.base in
    let last : List ℕ = point_text r.last ++ base in
    let first : List ℕ = point_text r.first ++ 46 ∷ 46 ∷ last in
    let skip_first : skip_blanks first ≡ first = skip-hex first (begins-append (point_text r.first) (46 ∷ 46 ∷ last) (begins-point r.first (scalar-below r.first is.first))) in
    let skip_last : skip_blanks last ≡ last = skip-hex last (begins-append (point_text r.last) base (begins-point r.last (scalar-below r.last is.last))) in
    step_done _ _ _ (ap range_end skip_first ∙ end_said r.first 46 (46 ∷ last) is.first refl)
    ∙ step_done _ _ _ (stops_said last)
    ∙ step_done _ _ _ (ap range_end skip_last ∙ end_said r.last 59 (32 ∷ four_digits r.base) is.last refl)
    ∙ step_done _ _ _ (base_said r.base is.base)

-- a directive, by its word and what follows it
directive_by : List ℕ → List ℕ → Result Statement Cause
directive_by word rest = if bytes_eq word version_word then some_text (skip_blanks rest) (Ok version) else if bytes_eq word range_word then some_text rest (range_of_text rest) else Err bad_directive

directive-range : (rest : List ℕ) → directive (range_word ++ 32 ∷ rest) ≡ range_of_text (32 ∷ rest)
unfolding directive directive_by
directive-range rest =
    let clear : AllByRecursion (λ b. is_blank b ≡ false) range_word = (refl, (refl, (refl, (refl, (refl, (refl, (refl, (refl, (refl, (refl, (refl, (refl, (refl, (refl, (refl, (refl, tt)))))))))))))))) in
    ap₂ directive_by (before_at is_blank range_word 32 rest clear refl) (from_at is_blank range_word 32 rest clear refl)

range_line-cut : (r : Range) → range_said r ≡ range_word ++ 32 ∷ (point_text r.first ++ 46 ∷ 46 ∷ (point_text r.last ++ 59 ∷ 32 ∷ four_digits r.base))
range_line-cut r =
    let base : List ℕ = codes "; " ++ four_digits r.base in
    ap (λ (l : List ℕ). range_word ++ 32 ∷ l) (append_assoc (point_text r.first ++ codes "..") (point_text r.last) base ∙ append_assoc (point_text r.first) (codes "..") (point_text r.last ++ base))

-- the line of a range says it
pub statement-range : (r : Range) → IsRange r → statement (range_said r) ≡ Ok (range r)
statement-range r is =
    statement-plain (range_said r) (plain-range r) (ends-append (codes "@implicitweights " ++ ends_text r) (codes "; " ++ four_digits r.base) (hex_no_blank _ (is_hex (r.base % 16) (omega arith))))
    ∙ ap (λ (l : List ℕ). statement_of (skip_blanks l)) (range_line-cut r)
    ∙ directive-range (point_text r.first ++ 46 ∷ 46 ∷ (point_text r.last ++ 59 ∷ 32 ∷ four_digits r.base))
    ∙ range_of_text-said r is
