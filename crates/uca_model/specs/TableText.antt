-- The text of a collation element table, as in `allkeys.txt` (UTS #10, Allkeys File Format): the table that it says, or its first faulty line.
use Rattle.std.specs.Prelude.{ℕ, Bool, true, false, ◌&&◌, ◌||◌, ◌==◌, nat_lt, List, [], ◌∷◌, ◌++◌, length, take, drop, Option, None, Result, Ok, Err, if◌then◌else◌}
use Rattle.std.specs.List.{position_or_len, before_first, after_first, slice_split}
use Rattle.std.specs.Option.{ok_or, is_some}
use Rattle.std.specs.FinMap.{insert, empty}
use Rattle.std.specs.Str.{bytes_eq}
pub use Rattle.uca_io.specs.Digits.{number_after, number, is_four_to_six, only_scalar}
unfoldable pub use Rattle.uca_io.specs.Digits.{code_point}
use Rattle.uca_io.specs.LineFold.{Fold, FaultAt, End, map_ok, with_text}
pub use Rattle.uca_io.specs.LineFold.{ends, stops}
pub use Rattle.uca_io.specs.Words.{tab, is_blank, skip_blanks, trim_end, words}
use Rattle.uca_weights.specs.declared.element.Element.{Element}
use Rattle.uca_weights.specs.declared.limits.TheConstants.{MAX_KEY, MAX_ELEMENTS}
use Rattle.uca_weights.specs.declared.range.Range.{Range}
use Rattle.uca_model.specs.Table.{ElementTable, is_key}
use Rattle.uca_model.specs.Ranges.{is_bad_range, put_range}
use Rattle.uca_model.specs.Lines.{without_return}

-- why a text is refused
pub data Cause : Type 0 where
  line_too_long : Cause
  bad_directive : Cause
  bad_code_point : Cause
  key_too_long : Cause
  no_semicolon : Cause
  bad_element : Cause
  no_element : Cause
  too_many_elements : Cause
  repeated : Cause
  bad_range : Cause
  too_large : Cause
  read : Cause

-- what a line says
pub data Statement : Type 0 where
  nothing : Statement
  version : Statement
  range : Range → Statement
  entry : List ℕ → List Element → Statement

-- a step that may be at fault, and what follows it
infixl 10 ◌>>=◌
abbrev pub ◌>>=◌ : {A B E : Type 0} → Result A E → (A → Result B E) → Result B E
Ok a >>= f = f a
Err e >>= f = Err e

-- Bytes

abbrev pub number_sign : ℕ
number_sign = 35

abbrev pub asterisk : ℕ
asterisk = 42

abbrev pub full_stop : ℕ
full_stop = 46

abbrev pub semicolon : ℕ
semicolon = 59

abbrev pub commercial_at : ℕ
commercial_at = 64

abbrev pub left_bracket : ℕ
left_bracket = 91

abbrev pub right_bracket : ℕ
right_bracket = 93

-- from the first byte that passes a test on
abbrev pub from_first : (ℕ → Bool) → List ℕ → List ℕ
from_first p bytes = drop (position_or_len p bytes) bytes

-- what follows a byte that has to come first
abbrev pub after_byte : Cause → ℕ → List ℕ → Result (List ℕ) Cause
after_byte cause b [] = Err cause
after_byte cause b (c ∷ bytes) = if c == b then Ok bytes else Err cause

-- Numbers and code points

-- the number that four hexadecimal digits spell
unfoldable pub four_digits : List ℕ → Option ℕ
four_digits digits = if length digits == 4 then number digits else None

-- Directives

-- `@version`
abbrev pub version_word : List ℕ
version_word = 64 ∷ 118 ∷ 101 ∷ 114 ∷ 115 ∷ 105 ∷ 111 ∷ 110 ∷ []

-- `@implicitweights`
abbrev pub range_word : List ℕ
range_word = 64 ∷ 105 ∷ 109 ∷ 112 ∷ 108 ∷ 105 ∷ 99 ∷ 105 ∷ 116 ∷ 119 ∷ 101 ∷ 105 ∷ 103 ∷ 104 ∷ 116 ∷ 115 ∷ []

abbrev pub ends_point : ℕ → Bool
ends_point b = is_blank b || (b == semicolon || b == full_stop)

-- an end of a range: a code point up to a blank, `;` or `.`, and what follows it
unfoldable pub range_end : List ℕ → Result (ℕ × List ℕ) Cause
range_end text = do
  c ← ok_or (code_point (before_first ends_point text)) bad_code_point
  Ok (c, from_first ends_point text)

-- blanks, `;`, blanks, and the base up to the end
unfoldable pub range_base : List ℕ → Result ℕ Cause
range_base text = do
  rest ← after_byte bad_directive semicolon (skip_blanks text)
  ok_or (four_digits (skip_blanks rest)) bad_directive

-- `..` between the ends of a range
unfoldable pub two_stops : List ℕ → Result (List ℕ) Cause
two_stops text = do
  rest ← after_byte bad_directive full_stop (skip_blanks text)
  after_byte bad_directive full_stop rest

-- `@implicitweights`: the ends of the range, and the base
unfoldable pub range_of_text : List ℕ → Result Statement Cause
range_of_text text = do
  first ← range_end (skip_blanks text)
  rest ← two_stops first.1
  last ← range_end (skip_blanks rest)
  base ← range_base last.1
  Ok (range (record { first = first.0; last = last.0; base = base }))

-- a text has to come next
abbrev pub some_text : {A : Type 0} → List ℕ → Result A Cause → Result A Cause
some_text [] r = Err bad_directive
some_text (b ∷ bytes) r = r

-- its word runs to the first blank
unfoldable pub directive : List ℕ → Result Statement Cause
directive text =
    let word = before_first is_blank text in let rest = from_first is_blank text in
    if bytes_eq word version_word then some_text (skip_blanks rest) (Ok version)
    else if bytes_eq word range_word then some_text rest (range_of_text rest)
    else Err bad_directive

-- Entries

-- a key and the words after it, each of which has to be a code point
abbrev pub key_after : List ℕ → List (List ℕ) → Result (List ℕ) Cause
key_after key [] = Ok key
key_after key (word ∷ more) = do
  c ← ok_or (code_point word) bad_code_point
  if nat_lt (length key) MAX_KEY then key_after (key ++ c ∷ []) more else Err key_too_long

abbrev pub is_semicolon : ℕ → Bool
is_semicolon b = b == semicolon

abbrev pub is_right_bracket : ℕ → Bool
is_right_bracket b = b == right_bracket

-- the key before the `;` that has to follow it
unfoldable pub entry_key : List ℕ → Result (List ℕ) Cause
entry_key text = do
  key ← key_after [] (words (before_first is_semicolon text))
  if position_or_len is_semicolon text == length text then Err no_semicolon else if length key == 0 then Err bad_code_point else Ok key

-- whether the mark is `*`, and what follows it
abbrev pub mark : List ℕ → Result (Bool × List ℕ) Cause
mark [] = Err bad_element
mark (b ∷ bytes) = if b == full_stop then Ok (false, bytes) else if b == asterisk then Ok (true, bytes) else Err bad_element

-- a weight, and what follows it
unfoldable pub weight_first : List ℕ → Result (ℕ × List ℕ) Cause
weight_first text = do
  w ← ok_or (four_digits (take 4 text)) bad_element
  Ok (w, drop 4 text)

-- a weight after a full stop
unfoldable pub next_weight : List ℕ → Result (ℕ × List ℕ) Cause
next_weight text = do
  rest ← after_byte bad_element full_stop text
  weight_first rest

-- a fourth weight, of four to six digits, which isn't used
abbrev pub is_old_weight : List ℕ → Bool
is_old_weight digits = is_four_to_six (length digits) && is_some (number digits)

-- after the third weight: nothing, or a fourth weight
abbrev pub element_ends : List ℕ → Bool
element_ends [] = true
element_ends (b ∷ digits) = b == full_stop && is_old_weight digits

-- an element up to its `]`: `[`, its mark, and three weights with full stops between
unfoldable pub element : List ℕ → Result Element Cause
element text = do
  rest ← after_byte bad_element left_bracket text
  starred ← mark rest
  l1 ← weight_first starred.1
  l2 ← next_weight l1.1
  l3 ← next_weight l2.1
  if element_ends l3.1 then Ok (record { starred = starred.0; l1 = l1.0; l2 = l2.0; l3 = l3.0 }) else Err bad_element

-- only blanks follow the last `]` of an entry
abbrev pub no_more_elements : List Element → List ℕ → Result (List Element) Cause
no_more_elements es [] = if length es == 0 then Err no_element else Ok es
no_more_elements es (b ∷ bytes) = Err bad_element

-- some elements and the texts after them, each but the last up to a `]`
abbrev pub elements_after : List Element → List (List ℕ) → Result (List Element) Cause
elements_after es [] = Ok es
elements_after es (last ∷ []) = no_more_elements es (skip_blanks last)
elements_after es (text ∷ next ∷ more) = do
  e ← element (skip_blanks text)
  if nat_lt (length es) MAX_ELEMENTS then elements_after (es ++ e ∷ []) (next ∷ more) else Err too_many_elements

-- a key, `;`, and elements
unfoldable pub entry_of_text : List ℕ → Result Statement Cause
entry_of_text text = do
  key ← entry_key text
  es ← elements_after [] (slice_split is_right_bracket (after_first is_semicolon text))
  Ok (entry key es)

-- Lines

-- what comes before the first `#`, without blanks at its ends
unfoldable pub said : List ℕ → List ℕ
said line = skip_blanks (trim_end (before_first (λ b. b == number_sign) line))

-- a directive begins with `@`; what is neither empty nor a directive is an entry
abbrev pub statement_of : List ℕ → Result Statement Cause
statement_of [] = Ok nothing
statement_of (b ∷ bytes) = if b == commercial_at then directive (b ∷ bytes) else entry_of_text (b ∷ bytes)

-- what a line says, whatever comes before it
unfoldable pub statement : List ℕ → Result Statement Cause
statement line = statement_of (said (without_return line))

-- The text

-- what the lines so far have said: the table, and whether one of them stated a version
pub record TextState : Type 0 where
  pub table : ElementTable
  pub has_version : Bool

abbrev pub no_lines : TextState
no_lines = record { table = record { entries = empty; ranges = []; ideographs = [] }; has_version = false }

abbrev pub with_table : TextState → ElementTable → TextState
with_table s t = record { table = t; has_version = s.has_version }

-- what a line adds, given the lines before it
abbrev pub add_statement : TextState → Statement → Result TextState Cause
add_statement s nothing = Ok s
add_statement s version = if s.has_version then Err bad_directive else Ok (record { table = s.table; has_version = true })
add_statement s (range r) = if is_bad_range s.table.ranges r then Err bad_range else Ok (with_table s (record { entries = s.table.entries; ranges = put_range r s.table.ranges; ideographs = s.table.ideographs }))
add_statement s (entry key es) = if is_key s.table key then Err repeated else Ok (with_table s (record { entries = insert s.table.entries key es; ranges = s.table.ranges; ideographs = s.table.ideographs }))

-- what a line says, added
abbrev pub add_line : TextState → List ℕ → Result TextState Cause
add_line s line = do
  said ← statement line
  add_statement s said

-- what each line adds, and the causes of a text that cannot be read
abbrev pub table_fold : Fold TextState Cause
table_fold = record { step = λ n s line. add_line s line; long = line_too_long; large = too_large; failed = read }

-- the table, without what else the lines have said
abbrev pub table_part : TextState → ElementTable
table_part s = s.table

-- the table that all lines of a text say, or its first fault in the order of its bytes
abbrev pub table_of_text : End Cause → List ℕ → Result ElementTable (FaultAt Cause)
table_of_text end bytes = map_ok table_part (with_text table_fold no_lines end bytes)
