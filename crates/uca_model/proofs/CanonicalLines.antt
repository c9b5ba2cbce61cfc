-- The lines of a canonical text: how long they are, what no byte of them is, and where they end.
use Rattle.std.proofs.Common.{◌≡◌, ◌≢◌, ℕ, ◌+◌, ◌*◌, ◌/◌, ◌%◌, ◌<◌, ◌≤◌, ◌==◌, nat_lt, Bool, true, false, List, [], ◌∷◌, ◌++◌, length, map, flat_map, codes, refl, sym, ap, ◌∙◌, arith, append_assoc, append-nil, length-append, lit≤, ne_eqb}
use Rattle.std.proofs.lemmas.Bool.{cond-false}
use Rattle.std.proofs.lemmas.Bool.Decides.{nat_tests}
use Rattle.std.specs.Bool.{if◌then◌else◌}
use Rattle.std.specs.Char.{digit_value, is_digit}
use Rattle.std.specs.List.{AllByRecursion, slice_split, before_first}
use Rattle.std.specs.FinMap.{entries}
use Rattle.std.proofs.lemmas.List.Elements.{All-from_recursion}
use Rattle.std.proofs.lemmas.List.Splits.{slice_split_at}
use Rattle.uca_weights.specs.declared.element.Element.{Element}
use Rattle.uca_weights.specs.declared.range.Range.{Range}
use Rattle.uca_weights.specs.declared.limits.TheConstants.{MAX_LINE}
use Rattle.uca_model.specs.Table.{ElementTable, IsEntry}
use Rattle.uca_model.specs.Lines.{line_feed, carriage_return, without_return}
use Rattle.uca_model.specs.TableText.{number_sign, skip_blanks, trim_end, said, statement_of, statement}
use Rattle.uca_model.specs.Output.{hex_digit}
use Rattle.uca_model.specs.CanonicalText.{four_digits, plane_text, point_text, variable_mark, element_text, key_text, ends_text, entry_line, range_line, canonical}
use Rattle.uca_model.proofs.CanonicalLemmas.{more_points, key_text-cons}
use Rattle.uca_model.proofs.ByteCuts.{before_none, EndsVisible, trim_end-visible}

-- Digits

-- a digit says its number
pub digit_value-hex_digit : (n : ℕ) → n < 16 → digit_value (hex_digit n) ≡ n
digit_value-hex_digit n h = grind (arith, nat_tests)

pub is_digit-hex_digit : (n : ℕ) → n < 16 → is_digit (hex_digit n) 16 ≡ true
is_digit-hex_digit n h = rw (digit_value-hex_digit n h) (grind (arith, nat_tests))

-- Bytes

-- a byte that neither ends a line nor begins a comment, nor is a CR
pub record IsPlain (b : ℕ) : Type 0 where
  pub visible : 32 ≤ b
  pub no_comment : b ≢ 35

plain_letter : (b : ℕ) → 36 ≤ b → IsPlain b
plain_letter b h = record { visible = omega arith; no_comment = omega arith }

pub plain_digit : (n : ℕ) → IsPlain (hex_digit n)
plain_digit n = plain_letter (hex_digit n) (grind (arith, nat_tests))

pub plain-append : (xs ys : List ℕ) → AllByRecursion IsPlain xs → AllByRecursion IsPlain ys → AllByRecursion IsPlain (xs ++ ys)
plain-append [] ys p q = q
plain-append (x ∷ xs) ys p q = (p.0, plain-append xs ys p.1 q)

pub plain-four_digits : (n : ℕ) → AllByRecursion IsPlain (four_digits n)
plain-four_digits n = (plain_digit _, (plain_digit _, (plain_digit _, (plain_digit _, tt))))

plain-if : (b : Bool) (xs ys : List ℕ) → AllByRecursion IsPlain xs → AllByRecursion IsPlain ys → AllByRecursion IsPlain (if b then xs else ys)
plain-if true xs ys p q = p
plain-if false xs ys p q = q

plain-plane_text : (plane : ℕ) → AllByRecursion IsPlain (plane_text plane)
plain-plane_text plane = plain-if (plane == 0) _ _ tt (plain-if (nat_lt plane 16) _ _ (plain_digit _, tt) (plain_digit _, (plain_digit _, tt)))

pub plain-point_text : (c : ℕ) → AllByRecursion IsPlain (point_text c)
unfolding point_text
plain-point_text c = plain-append (plane_text (c / 0x10000)) (four_digits (c % 0x10000)) (plain-plane_text (c / 0x10000)) (plain-four_digits (c % 0x10000))

plain_blank : IsPlain 32
plain_blank = record { visible = lit≤ tt; no_comment = omega arith }

plain_stop : IsPlain 46
plain_stop = plain_letter 46 (lit≤ tt)

plain-more_points : (key : List ℕ) → AllByRecursion IsPlain (more_points key)
plain-more_points [] = tt
plain-more_points (c ∷ key) = (plain_blank, plain-append (point_text c) (more_points key) (plain-point_text c) (plain-more_points key))

pub plain-key_text : (key : List ℕ) → AllByRecursion IsPlain (key_text key)
plain-key_text [] = tt
plain-key_text (c ∷ key) = rw (key_text-cons c key) (plain-append (point_text c) (more_points key) (plain-point_text c) (plain-more_points key))

plain_mark : (e : Element) → IsPlain (variable_mark e)
plain_mark e = plain_letter (variable_mark e) (grind (arith, nat_tests))

pub plain-element_text : (e : Element) → AllByRecursion IsPlain (element_text e)
unfolding element_text
plain-element_text e = (plain_letter 91 (lit≤ tt), (plain_mark e, (plain_digit _, (plain_digit _, (plain_digit _, (plain_digit _, (plain_stop, (plain_digit _, (plain_digit _, (plain_digit _, (plain_digit _, (plain_stop, (plain_digit _, (plain_digit _, (plain_digit _, (plain_digit _, (plain_letter 93 (lit≤ tt), tt)))))))))))))))))

pub plain-elements : (es : List Element) → AllByRecursion IsPlain (flat_map element_text es)
plain-elements [] = tt
plain-elements (e ∷ es) = plain-append (element_text e) (flat_map element_text es) (plain-element_text e) (plain-elements es)

-- Lines

-- the line of an entry without its LF
abbrev pub entry_said : List ℕ × List Element → List ℕ
entry_said e = key_text e.0 ++ codes " ; " ++ flat_map element_text e.1

-- the line of a range without its LF
abbrev pub range_said : Range → List ℕ
range_said r = codes "@implicitweights " ++ ends_text r ++ (codes "; " ++ four_digits r.base)

pub entry_line-said : (e : List ℕ × List Element) → entry_line e ≡ entry_said e ++ line_feed ∷ []
entry_line-said e = refl

pub range_line-said : (r : Range) → range_line r ≡ range_said r ++ line_feed ∷ []
range_line-said r = sym (append_assoc (codes "@implicitweights " ++ ends_text r) (codes "; " ++ four_digits r.base) (line_feed ∷ []))

pub plain-entry : (e : List ℕ × List Element) → AllByRecursion IsPlain (entry_said e)
plain-entry e = plain-append (key_text e.0 ++ codes " ; ") (flat_map element_text e.1) (plain-append (key_text e.0) (codes " ; ") (plain-key_text e.0) (plain_blank, (plain_letter 59 (lit≤ tt), (plain_blank, tt)))) (plain-elements e.1)

-- Lengths

length-if : (b : Bool) (xs ys : List ℕ) (n : ℕ) → length xs ≤ n → length ys ≤ n → length (if b then xs else ys) ≤ n
length-if true xs ys n p q = p
length-if false xs ys n p q = q

length-plane_text : (plane : ℕ) → length (plane_text plane) ≤ 2
length-plane_text plane = length-if (plane == 0) _ _ 2 (lit≤ tt) (length-if (nat_lt plane 16) _ _ 2 (lit≤ tt) (lit≤ tt))

pub length-point_text : (c : ℕ) → (4 ≤ length (point_text c)) × (length (point_text c) ≤ 6)
unfolding point_text
length-point_text c =
    let whole : length (point_text c) ≡ length (plane_text (c / 0x10000)) + 4 = length-append (plane_text (c / 0x10000)) (four_digits (c % 0x10000)) in
    let few : length (plane_text (c / 0x10000)) ≤ 2 = length-plane_text (c / 0x10000) in
    (omega (arith, whole), omega (arith, whole, few))

length-more_points : (key : List ℕ) → length (more_points key) ≤ 7 * length key
length-more_points [] = omega arith
length-more_points (c ∷ key) = omega (arith, length-append (point_text c) (more_points key), (length-point_text c).1, length-more_points key)

pub length-key_text : (key : List ℕ) → length (key_text key) ≤ 7 * length key
length-key_text [] = omega arith
length-key_text (c ∷ key) = omega (arith, ap length (key_text-cons c key), length-append (point_text c) (more_points key), (length-point_text c).1, length-more_points key)

pub length-element_text : (e : Element) → length (element_text e) ≡ 17
unfolding element_text
length-element_text e = refl

pub length-elements : (es : List Element) → length (flat_map element_text es) ≡ 17 * length es
length-elements [] = refl
length-elements (e ∷ es) = omega (arith, length-append (element_text e) (flat_map element_text es), length-element_text e, length-elements es)

-- the line of an entry is short enough to be read
pub length-entry : (e : List ℕ × List Element) → IsEntry e → length (entry_said e) ≤ MAX_LINE
length-entry e is =
    omega (arith, length-append (key_text e.0 ++ codes " ; ") (flat_map element_text e.1), length-append (key_text e.0) (codes " ; "), length-key_text e.0, length-elements e.1, is.few_points, is.few_elements)

-- the line of a range is so as well
pub length-range : (r : Range) → length (range_said r) ≤ MAX_LINE
length-range r =
    omega (
      arith,
      length-append (codes "@implicitweights " ++ ends_text r) (codes "; " ++ four_digits r.base),
      length-append (codes "@implicitweights ") (ends_text r),
      length-append (point_text r.first ++ codes "..") (point_text r.last),
      length-append (point_text r.first) (codes ".."),
      (length-point_text r.first).1,
      (length-point_text r.last).1,
    )

-- Where the lines end

not_feed : (b : ℕ) → IsPlain b → (b == line_feed) ≡ false
not_feed b plain = grind (arith, nat_tests, plain.visible)

no_feeds : (xs : List ℕ) → AllByRecursion IsPlain xs → AllByRecursion (λ b. (b == line_feed) ≡ false) xs
no_feeds [] plain = tt
no_feeds (x ∷ xs) plain = (not_feed x plain.0, no_feeds xs plain.1)

-- the first line of a text
pub first_line : (xs rest : List ℕ) → AllByRecursion IsPlain xs → slice_split (λ b. b == line_feed) (xs ++ line_feed ∷ rest) ≡ xs ∷ slice_split (λ b. b == line_feed) rest
first_line xs rest plain = slice_split_at (λ b. b == line_feed) xs line_feed rest (All-from_recursion (λ b. (b == line_feed) ≡ false) xs (no_feeds xs plain)) refl

-- the lines of the entries, and what follows them
pub lines_of_entries : (es : List (List ℕ × List Element)) (rest : List ℕ) → slice_split (λ b. b == line_feed) (flat_map entry_line es ++ rest) ≡ map entry_said es ++ slice_split (λ b. b == line_feed) rest
lines_of_entries [] rest = refl
lines_of_entries (e ∷ es) rest =
    let whole : flat_map entry_line (e ∷ es) ++ rest ≡ entry_said e ++ line_feed ∷ (flat_map entry_line es ++ rest)
    = append_assoc (entry_line e) (flat_map entry_line es) rest ∙ ap (λ l. l ++ (flat_map entry_line es ++ rest)) (entry_line-said e) ∙ append_assoc (entry_said e) (line_feed ∷ []) (flat_map entry_line es ++ rest) in
    ap (slice_split (λ b. b == line_feed)) whole ∙ first_line (entry_said e) (flat_map entry_line es ++ rest) (plain-entry e) ∙ ap (λ l. entry_said e ∷ l) (lines_of_entries es rest)

plain_word : AllByRecursion IsPlain (codes "@implicitweights ")
plain_word = (plain_letter 64 (lit≤ tt), (plain_letter 105 (lit≤ tt), (plain_letter 109 (lit≤ tt), (plain_letter 112 (lit≤ tt), (plain_letter 108 (lit≤ tt), (plain_letter 105 (lit≤ tt), (plain_letter 99 (lit≤ tt), (plain_letter 105 (lit≤ tt), (plain_letter 116 (lit≤ tt), (plain_letter 119 (lit≤ tt), (plain_letter 101 (lit≤ tt), (plain_letter 105 (lit≤ tt), (plain_letter 103 (lit≤ tt), (plain_letter 104 (lit≤ tt), (plain_letter 116 (lit≤ tt), (plain_letter 115 (lit≤ tt), (plain_blank, tt)))))))))))))))))

pub plain-range : (r : Range) → AllByRecursion IsPlain (range_said r)
plain-range r =
    plain-append (codes "@implicitweights " ++ ends_text r) (codes "; " ++ four_digits r.base)
    (plain-append (codes "@implicitweights ") (ends_text r) plain_word
    (plain-append (point_text r.first ++ codes "..") (point_text r.last) (plain-append (point_text r.first) (codes "..") (plain-point_text r.first) (plain_stop, (plain_stop, tt))) (plain-point_text r.last)))
    (plain_letter 59 (lit≤ tt), (plain_blank, plain-four_digits r.base))

-- the lines of the ranges, and what follows them
pub lines_of_ranges : (rs : List Range) (rest : List ℕ) → slice_split (λ b. b == line_feed) (flat_map range_line rs ++ rest) ≡ map range_said rs ++ slice_split (λ b. b == line_feed) rest
lines_of_ranges [] rest = refl
lines_of_ranges (r ∷ rs) rest =
    let whole : flat_map range_line (r ∷ rs) ++ rest ≡ range_said r ++ line_feed ∷ (flat_map range_line rs ++ rest)
    = append_assoc (range_line r) (flat_map range_line rs) rest ∙ ap (λ l. l ++ (flat_map range_line rs ++ rest)) (range_line-said r) ∙ append_assoc (range_said r) (line_feed ∷ []) (flat_map range_line rs ++ rest) in
    ap (slice_split (λ b. b == line_feed)) whole ∙ first_line (range_said r) (flat_map range_line rs ++ rest) (plain-range r) ∙ ap (λ l. range_said r ∷ l) (lines_of_ranges rs rest)

-- the lines of a canonical text; no byte follows its last LF
pub lines_of_canonical : (t : ElementTable) → slice_split (λ b. b == line_feed) (canonical t) ≡ map range_said t.ranges ++ (map entry_said (entries t.entries) ++ [] ∷ [])
lines_of_canonical t =
    lines_of_ranges t.ranges (flat_map entry_line (entries t.entries))
    ∙ ap (λ l. map range_said t.ranges ++ l) (ap (slice_split (λ b. b == line_feed)) (sym (append-nil (flat_map entry_line (entries t.entries)))) ∙ lines_of_entries (entries t.entries) [])

-- What the lines say

without_return-plain : (line : List ℕ) → AllByRecursion IsPlain line → without_return line ≡ line
without_return-plain [] plain = refl
without_return-plain (b ∷ []) plain = cond-false _ _ _ (ne_eqb b carriage_return (λ same. omega (arith, plain.0.visible)))
without_return-plain (b ∷ c ∷ line) plain = ap (λ (l : List ℕ). b ∷ l) (without_return-plain (c ∷ line) plain.1)

not_sign : (b : ℕ) → IsPlain b → (b == number_sign) ≡ false
not_sign b plain = ne_eqb b number_sign plain.no_comment

no_signs : (xs : List ℕ) → AllByRecursion IsPlain xs → AllByRecursion (λ b. (b == number_sign) ≡ false) xs
no_signs [] plain = tt
no_signs (x ∷ xs) plain = (not_sign x plain.0, no_signs xs plain.1)

-- a line with neither a comment nor blanks at the end
pub statement-plain : (line : List ℕ) → AllByRecursion IsPlain line → EndsVisible line → statement line ≡ statement_of (skip_blanks line)
unfolding statement said
statement-plain line plain visible =
    ap (λ (l : List ℕ). statement_of (skip_blanks (trim_end (before_first (λ b. b == number_sign) l)))) (without_return-plain line plain)
    ∙ ap (λ (l : List ℕ). statement_of (skip_blanks (trim_end l))) (before_none (λ b. b == number_sign) line (no_signs line plain))
    ∙ ap (λ (l : List ℕ). statement_of (skip_blanks l)) (trim_end-visible line visible)
