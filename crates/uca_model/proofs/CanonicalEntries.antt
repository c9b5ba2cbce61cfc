-- The line of an entry says the entry.
use Rattle.std.proofs.Common.{◌≡◌, ℕ, ◌+◌, ◌<◌, ◌≤◌, ◌==◌, Bool, true, false, not, List, [], ◌∷◌, ◌++◌, length, nat_lt, map, filter, flat_map, codes, refl, sym, ap, ◌∙◌, arith, append_assoc, append-nil, length-append, ne_eqb}
use Rattle.std.proofs.lemmas.Bool.{cond-true, cond-false, lt-ltb}
use Rattle.std.proofs.lemmas.Bool.Decides.{nat_tests}
use Rattle.std.proofs.lemmas.List.Elements.{All-from_recursion, recursion_from_All}
use Rattle.std.proofs.lemmas.List.Splits.{slice_split_at, slice_split-cons_no}
use Rattle.std.specs.Bool.{if◌then◌else◌}
use Rattle.std.specs.Char.{IsScalar}
use Rattle.std.specs.List.{AllByRecursion, slice_split, position_or_len, before_first, after_first, onto_first}
use Rattle.std.specs.Option.{ok_or}
use Rattle.std.specs.Prelude.{Result, Ok, Err, Option}
use Rattle.uca_weights.specs.declared.element.Element.{Element}
use Rattle.uca_weights.specs.declared.limits.TheConstants.{MAX_KEY, MAX_ELEMENTS}
use Rattle.uca_model.specs.Table.{IsElement, IsEntry}
use Rattle.uca_model.specs.TableText as text
use Rattle.uca_model.specs.TableText.{◌>>=◌, Cause, commercial_at, bad_code_point, key_too_long, no_semicolon, bad_element, entry, code_point, words, is_blank, is_semicolon, is_right_bracket, skip_blanks, key_after, entry_key, element, weight_first, next_weight, elements_after, entry_of_text, statement_of, statement}
use Rattle.uca_model.specs.CanonicalText.{four_digits, point_text, variable_mark, element_text, key_text}
use Rattle.uca_model.proofs.CanonicalLemmas.{more_points, key_text-cons}
use Rattle.uca_model.proofs.CanonicalLines.{entry_said, plain-entry, length-point_text, statement-plain}
use Rattle.uca_model.proofs.CanonicalDigits.{no_hex, hex_no_blank, hex_no_semicolon, hex_no_bracket, hex-four, hex-point, code_point-said, four_digits-said, scalar-below, BeginsHex, begins-append, begins-point, skip-hex}
use Rattle.uca_model.proofs.ByteCuts.{none-append, position_at, before_at, after_at, EndsVisible, ends-append}
use Rattle.uca_model.proofs.TextSteps.{step_done}
use Rattle.uca_model.proofs.PartLemmas.{part-added}

-- The key

-- the first word
first_point : (c : ℕ) (rest : List ℕ) → c < 0x110000 → slice_split is_blank (point_text c ++ 32 ∷ rest) ≡ point_text c ∷ slice_split is_blank rest
first_point c rest h = slice_split_at is_blank (point_text c) 32 rest (All-from_recursion (λ b. is_blank b ≡ false) (point_text c) (no_hex is_blank hex_no_blank (point_text c) (hex-point c h))) refl

-- the words before the `;` of an entry are the texts of its code points, and an empty word after the last blank
cut_key : (c : ℕ) (key : List ℕ) → AllByRecursion IsScalar (c ∷ key) → slice_split is_blank (key_text (c ∷ key) ++ 32 ∷ []) ≡ map point_text (c ∷ key) ++ [] ∷ []
cut_key c [] all = first_point c [] (scalar-below c all.0)
cut_key c (d ∷ key) all =
    ap (slice_split is_blank) (append_assoc (point_text c) (32 ∷ key_text (d ∷ key)) (32 ∷ [])) ∙ first_point c (key_text (d ∷ key) ++ 32 ∷ []) (scalar-below c all.0) ∙ ap (λ (l : List (List ℕ)). point_text c ∷ l) (cut_key d key all.1)

kept_points : (key : List ℕ) → filter (λ word. not (length word == 0)) (map point_text key ++ [] ∷ []) ≡ map point_text key
kept_points [] = refl
kept_points (c ∷ key) =
    cond-true _ _ _ (ap not (ne_eqb (length (point_text c)) 0 (λ same. omega (arith, (length-point_text c).0)))) ∙ ap (λ (l : List (List ℕ)). point_text c ∷ l) (kept_points key)

words_of_key : (c : ℕ) (key : List ℕ) → AllByRecursion IsScalar (c ∷ key) → words (key_text (c ∷ key) ++ 32 ∷ []) ≡ map point_text (c ∷ key)
words_of_key c key all = ap (filter (λ word. not (length word == 0))) (cut_key c key all) ∙ kept_points (c ∷ key)

key_of_points : (done key : List ℕ) → length done + length key ≤ MAX_KEY → AllByRecursion IsScalar key → key_after done (map point_text key) ≡ Ok (done ++ key)
key_of_points done [] few all = ap Ok (sym (append-nil done))
key_of_points done (c ∷ key) few all =
    let less : length done < MAX_KEY = omega arith in
    let said : ok_or (code_point (point_text c)) bad_code_point ≡ Ok c = ap (λ (o : Option ℕ). ok_or o bad_code_point) (code_point-said c all.0) in
    ap (λ (r : Result ℕ Cause). r >>= (λ d. if nat_lt (length done) MAX_KEY then key_after (done ++ d ∷ []) (map point_text key) else Err key_too_long)) said
    ∙ cond-true _ _ _ (lt-ltb (length done) MAX_KEY less)
    ∙ key_of_points (done ++ c ∷ []) key (omega (arith, length-append done (c ∷ []))) all.1
    ∙ ap Ok (append_assoc done (c ∷ []) key)

open_points : (key : List ℕ) → AllByRecursion IsScalar key → AllByRecursion (λ b. is_semicolon b ≡ false) (more_points key)
open_points [] all = tt
open_points (c ∷ key) all = (refl, none-append is_semicolon (point_text c) (more_points key) (no_hex is_semicolon hex_no_semicolon (point_text c) (hex-point c (scalar-below c all.0))) (open_points key all.1))

open_key : (c : ℕ) (key : List ℕ) → AllByRecursion IsScalar (c ∷ key) → AllByRecursion (λ b. is_semicolon b ≡ false) (key_text (c ∷ key))
open_key c key all = rw (key_text-cons c key) (none-append is_semicolon (point_text c) (more_points key) (no_hex is_semicolon hex_no_semicolon (point_text c) (hex-point c (scalar-below c all.0))) (open_points key all.1))

-- the code points come before the first `;`
pub entry_key-said : (c : ℕ) (key rest : List ℕ) → AllByRecursion IsScalar (c ∷ key) → length (c ∷ key) ≤ MAX_KEY → entry_key ((key_text (c ∷ key) ++ 32 ∷ []) ++ 59 ∷ rest) ≡ Ok (c ∷ key)
unfolding entry_key
entry_key-said c key rest all few =
    let front : List ℕ = key_text (c ∷ key) ++ 32 ∷ [] in
    let line : List ℕ = front ++ 59 ∷ rest in
    let open_front : AllByRecursion (λ b. is_semicolon b ≡ false) front = none-append is_semicolon (key_text (c ∷ key)) (32 ∷ []) (open_key c key all) (refl, tt) in
    let read : key_after [] (words (before_first is_semicolon line)) ≡ Ok (c ∷ key)
    = ap (λ (l : List ℕ). key_after [] (words l)) (before_at is_semicolon front 59 rest open_front refl) ∙ ap (key_after []) (words_of_key c key all) ∙ key_of_points [] (c ∷ key) (omega arith) all in
    let inside : position_or_len is_semicolon line ≡ length front = position_at is_semicolon front 59 rest open_front refl in
    let differs : (position_or_len is_semicolon line == length line) ≡ false = ne_eqb _ _ (λ same. omega (arith, inside, same, length-append front (59 ∷ rest))) in
    step_done _ (c ∷ key) (λ key. if position_or_len is_semicolon line == length line then Err no_semicolon else if length key == 0 then Err bad_code_point else Ok key) read
    ∙ cond-false _ _ _ differs ∙ cond-false _ _ _ (ne_eqb (length (c ∷ key)) 0 (λ none. omega arith))

-- Elements

-- an element up to its `]`
abbrev pub element_front : Element → List ℕ
element_front e = codes "[" ++ variable_mark e ∷ four_digits e.l1 ++ codes "." ++ four_digits e.l2 ++ codes "." ++ four_digits e.l3

element_text-front : (e : Element) → element_text e ≡ element_front e ++ 93 ∷ []
unfolding element_text
element_text-front e = refl

mark_no_bracket : (e : Element) → is_right_bracket (variable_mark e) ≡ false
mark_no_bracket e = grind (arith, nat_tests)

front_open : (e : Element) → IsElement e → AllByRecursion (λ b. is_right_bracket b ≡ false) (element_front e)
front_open e is =
    let four : (n : ℕ) → n < 0x10000 → AllByRecursion (λ b. is_right_bracket b ≡ false) (four_digits n) = λ n h. no_hex is_right_bracket hex_no_bracket (four_digits n) (hex-four n h) in
    let a = four e.l1 is.l1 in let b = four e.l2 is.l2 in let d = four e.l3 is.l3 in
    (refl, (mark_no_bracket e, (a.0, (a.1.0, (a.1.1.0, (a.1.1.1.0, (refl, (b.0, (b.1.0, (b.1.1.0, (b.1.1.1.0, (refl, d))))))))))))

-- elements, cut at each `]`; no byte follows the last one
cut_elements : (es : List Element) → AllByRecursion IsElement es → slice_split is_right_bracket (flat_map element_text es) ≡ map element_front es ++ [] ∷ []
cut_elements [] all = refl
cut_elements (e ∷ es) all =
    let whole : element_text e ++ flat_map element_text es ≡ element_front e ++ 93 ∷ flat_map element_text es
    = ap (λ (l : List ℕ). l ++ flat_map element_text es) (element_text-front e) ∙ append_assoc (element_front e) (93 ∷ []) (flat_map element_text es) in
    ap (slice_split is_right_bracket) whole ∙ slice_split_at is_right_bracket (element_front e) 93 (flat_map element_text es) (All-from_recursion (λ b. is_right_bracket b ≡ false) (element_front e) (front_open e all.0)) refl
    ∙ ap (λ (l : List (List ℕ)). element_front e ∷ l) (cut_elements es all.1)

mark_by : (starred : Bool) (rest : List ℕ) → text.mark ((if starred then 42 else 46) ∷ rest) ≡ Ok (starred, rest)
mark_by true rest = refl
mark_by false rest = refl

weight_said : (n : ℕ) (rest : List ℕ) → n < 0x10000 → weight_first (four_digits n ++ rest) ≡ Ok (n, rest)
unfolding weight_first
weight_said n rest h = step_done _ n (λ w. Ok (w, rest)) (ap (λ (o : Option ℕ). ok_or o bad_element) (four_digits-said n h))

next_said : (n : ℕ) (rest : List ℕ) → n < 0x10000 → next_weight (46 ∷ four_digits n ++ rest) ≡ Ok (n, rest)
unfolding next_weight
next_said n rest h = weight_said n rest h

element-said : (e : Element) → IsElement e → element (element_front e) ≡ Ok e
unfolding element
element-said e is =
    step_done _ _ _ (mark_by e.starred (four_digits e.l1 ++ codes "." ++ four_digits e.l2 ++ codes "." ++ four_digits e.l3))
    ∙ step_done _ _ _ (weight_said e.l1 (codes "." ++ four_digits e.l2 ++ codes "." ++ four_digits e.l3) is.l1)
    ∙ step_done _ _ _ (next_said e.l2 (codes "." ++ four_digits e.l3) is.l2)
    ∙ step_done _ _ _ (next_said e.l3 [] is.l3)

elements_of_fronts : (done es : List Element) → 0 < length done + length es → length done + length es ≤ MAX_ELEMENTS → AllByRecursion IsElement es → elements_after done (map element_front es ++ [] ∷ []) ≡ Ok (done ++ es)
elements_of_fronts done [] some few all = cond-false _ _ _ (ne_eqb (length done) 0 (λ none. omega arith)) ∙ ap Ok (sym (append-nil done))
elements_of_fronts done (e ∷ es) some few all =
    part-added done (element_front e) (map element_front es ++ [] ∷ []) e (omega (arith, length-append (map element_front es) ([] ∷ []))) (element-said e all.0) (omega arith)
    ∙ elements_of_fronts (done ++ e ∷ []) es (omega (arith, length-append done (e ∷ []))) (omega (arith, length-append done (e ∷ []))) all.1
    ∙ ap Ok (append_assoc done (e ∷ []) es)

-- the elements follow the `;` and a blank
elements-said : (es : List Element) → 0 < length es → length es ≤ MAX_ELEMENTS → AllByRecursion IsElement es → elements_after [] (slice_split is_right_bracket (32 ∷ flat_map element_text es)) ≡ Ok es
elements-said [] some few all = absurd (omega arith)
elements-said (e ∷ es) some few all =
    let cut : slice_split is_right_bracket (32 ∷ flat_map element_text (e ∷ es)) ≡ (32 ∷ element_front e) ∷ (map element_front es ++ [] ∷ [])
    = slice_split-cons_no is_right_bracket 32 (flat_map element_text (e ∷ es)) refl ∙ ap (onto_first 32) (cut_elements (e ∷ es) all) in
    ap (elements_after []) cut
    ∙ part-added [] (32 ∷ element_front e) (map element_front es ++ [] ∷ []) e (omega (arith, length-append (map element_front es) ([] ∷ []))) (element-said e all.0) (omega arith)
    ∙ elements_of_fronts (e ∷ []) es (omega arith) (omega arith) all.1

-- The line

entry_line-cut : (key : List ℕ) (es : List Element) → entry_said (key, es) ≡ (key_text key ++ 32 ∷ []) ++ 59 ∷ 32 ∷ flat_map element_text es
entry_line-cut key es =
    append_assoc (key_text key) (codes " ; ") (flat_map element_text es) ∙ sym (append_assoc (key_text key) (32 ∷ []) (59 ∷ 32 ∷ flat_map element_text es))

begins-entry : (c : ℕ) (key rest : List ℕ) → IsScalar c → BeginsHex ((key_text (c ∷ key) ++ 32 ∷ []) ++ rest)
begins-entry c key rest is =
    begins-append (key_text (c ∷ key) ++ 32 ∷ []) rest (begins-append (key_text (c ∷ key)) (32 ∷ []) (rw (key_text-cons c key) (begins-append (point_text c) (more_points key) (begins-point c (scalar-below c is)))))

-- what begins with a digit is no directive
statement_of-hex : (line : List ℕ) → BeginsHex line → statement_of (skip_blanks line) ≡ entry_of_text line
statement_of-hex [] h = absurd h
statement_of-hex (b ∷ line) h = ap statement_of (skip-hex (b ∷ line) h) ∙ cond-false _ _ _ (ne_eqb b commercial_at (λ same. omega (arith, h.gap)))

entry_of_text-said : (c : ℕ) (key : List ℕ) (es : List Element) → IsEntry (c ∷ key, es) → entry_of_text ((key_text (c ∷ key) ++ 32 ∷ []) ++ 59 ∷ 32 ∷ flat_map element_text es) ≡ Ok (entry (c ∷ key) es)
unfolding entry_of_text
entry_of_text-said c key es is =
    let points : AllByRecursion IsScalar (c ∷ key) = recursion_from_All IsScalar (c ∷ key) is.points in
    let front : List ℕ = key_text (c ∷ key) ++ 32 ∷ [] in
    let open_front : AllByRecursion (λ b. is_semicolon b ≡ false) front = none-append is_semicolon (key_text (c ∷ key)) (32 ∷ []) (open_key c key points) (refl, tt) in
    let rest : List ℕ = 32 ∷ flat_map element_text es in
    let read : elements_after [] (slice_split is_right_bracket (after_first is_semicolon (front ++ 59 ∷ rest))) ≡ Ok es
    = ap (λ (l : List ℕ). elements_after [] (slice_split is_right_bracket l)) (after_at is_semicolon front 59 rest open_front refl)
    ∙ elements-said es is.some_elements is.few_elements (recursion_from_All IsElement es is.elements) in
    step_done _ (c ∷ key) (λ key. elements_after [] (slice_split is_right_bracket (after_first is_semicolon (front ++ 59 ∷ rest))) >>= (λ es. Ok (entry key es))) (entry_key-said c key rest points is.few_points)
    ∙ step_done _ es (λ es. Ok (entry (c ∷ key) es)) read

ends-elements : (es : List Element) → 0 < length es → EndsVisible (flat_map element_text es)
unfolding element_text
ends-elements [] some = absurd (omega arith)
ends-elements (e ∷ []) some = refl
ends-elements (e ∷ f ∷ es) some = ends-append (element_text e) (flat_map element_text (f ∷ es)) (ends-elements (f ∷ es) (omega arith))

-- the line of an entry says it
pub statement-entry : (key : List ℕ) (es : List Element) → IsEntry (key, es) → statement (entry_said (key, es)) ≡ Ok (entry key es)
statement-entry [] es is = absurd (omega (arith, is.some_points))
statement-entry (c ∷ key) es is =
    let points : AllByRecursion IsScalar (c ∷ key) = recursion_from_All IsScalar (c ∷ key) is.points in
    statement-plain (entry_said (c ∷ key, es)) (plain-entry (c ∷ key, es)) (ends-append (key_text (c ∷ key) ++ codes " ; ") (flat_map element_text es) (ends-elements es is.some_elements))
    ∙ ap (λ (l : List ℕ). statement_of (skip_blanks l)) (entry_line-cut (c ∷ key) es)
    ∙ statement_of-hex _ (begins-entry c key (59 ∷ 32 ∷ flat_map element_text es) points.0)
    ∙ entry_of_text-said c key es is
