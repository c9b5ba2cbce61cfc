-- The text of rules (UTS #35, Part 5, Collation, 3, Rules; a profile), in stages: pieces by their spelling, strings between
-- operators, faults in the order in which they are met, chains.
use Rattle.std.specs.Prelude.{ℕ, zero, suc, ◌+◌, ◌*◌, Bool, true, false, not, ◌==◌, ◌||◌, ◌&&◌, nat_lt, nat_le, List, [], ◌∷◌, ◌++◌, length, take, drop, flat_map, take_while, Option, Some, None, Result, Ok, Err, encode_utf8_all, if◌then◌else◌}
use Rattle.std.specs.Char.{digit_value, is_digit}
use Rattle.std.specs.List.{list_any}
use Rattle.std.specs.Option.{option_map, option_map_or}
use Rattle.unicode_normalization.specs.Forms.{nfd}
use Rattle.uca_weights.specs.declared.limits.TheConstants.{MAX_KEY, MAX_RELATIONS}
use lib.Utf8.{scalar}
use Rattle.uca_model.specs.SafeText.{is_safe}
use Rattle.uca_model.specs.Rules.{Operator, first, second, third, same, Relation, Chain}

-- why a text is refused
pub data RuleCause : Type 0 where
  syntax : RuleCause
  left_out : RuleCause
  empty_string : RuleCause
  long_run : RuleCause
  key_too_long : RuleCause
  too_many_relations : RuleCause

-- the byte of a fault, and why
pub record RuleFault : Type 0 where
  pub at : ℕ
  pub cause : RuleCause

-- Characters

abbrev pub is_one_of : List ℕ → ℕ → Bool
is_one_of cs c = list_any (λ x. x == c) cs

abbrev pub is_within : ℕ → ℕ → ℕ → Bool
is_within from to c = nat_le from c && nat_le c to

-- Pattern_White_Space (UAX #31, 4, Pattern Syntax)
abbrev pub is_white_space : ℕ → Bool
is_white_space c = is_within 0x09 0x0D c || is_one_of (0x20 ∷ 0x85 ∷ 0x200E ∷ 0x200F ∷ 0x2028 ∷ 0x2029 ∷ []) c

-- what ends a comment
abbrev pub is_line_end : ℕ → Bool
is_line_end c = is_one_of (0x0A ∷ 0x0C ∷ 0x0D ∷ 0x85 ∷ 0x2028 ∷ 0x2029 ∷ []) c

-- what stands for itself: an ASCII letter or digit, `_`, or any character past ASCII
abbrev pub is_plain : ℕ → Bool
is_plain c = is_within 48 57 c || is_within 65 90 c || is_within 97 122 c || c == 95 || nat_le 0x80 c

-- `[`, `|`, `;`, `,` and `@`, which belong to parts of the syntax that are left out
abbrev pub is_left_out : ℕ → Bool
is_left_out c = is_one_of (91 ∷ 124 ∷ 59 ∷ 44 ∷ 64 ∷ []) c

-- `#`, `&`, `'`, `*`, `/`, `<`, `=`, `\`, `u` and `U`
abbrev pub number_sign : ℕ
number_sign = 35

abbrev pub ampersand : ℕ
ampersand = 38

abbrev pub apostrophe : ℕ
apostrophe = 39

abbrev pub asterisk : ℕ
asterisk = 42

abbrev pub solidus : ℕ
solidus = 47

abbrev pub less_than : ℕ
less_than = 60

abbrev pub equals : ℕ
equals = 61

abbrev pub backslash : ℕ
backslash = 92

abbrev pub small_u : ℕ
small_u = 117

abbrev pub capital_u : ℕ
capital_u = 85

-- Pieces

-- what a piece of the text says
pub data Kind : Type 0 where
  skipped : Kind
  gives : List ℕ → Kind
  resets : Kind
  relates : Operator → Kind
  left_out_relation : Kind
  expands : Kind
  refused : RuleCause → Kind

-- a piece, and how many characters it has
pub record Piece : Type 0 where
  pub kind : Kind
  pub size : ℕ

abbrev pub piece : Kind → ℕ → Piece
piece kind size = record { kind = kind; size = size }

abbrev pub begins_with : ℕ → List ℕ → Bool
begins_with c [] = false
begins_with c (x ∷ xs) = x == c

-- the operator before these characters, which is left out before a `*`
abbrev pub operator : Operator → ℕ → List ℕ → Piece
operator op size after = if begins_with asterisk after then piece left_out_relation size else piece (relates op) size

-- `<` this many times in a row
abbrev pub less_signs : ℕ → List ℕ → Piece
less_signs n after =
    if n == 1 then operator first 1 after
    else if n == 2 then operator second 2 after
    else if n == 3 then operator third 3 after
    else piece left_out_relation n

-- how many `<` there are in front
abbrev pub less_run : List ℕ → ℕ
less_run cs = length (take_while (λ c. c == less_than) cs)

-- the value of n hexadecimal digits in front, after those of another value
abbrev pub hex_value : ℕ → ℕ → List ℕ → Option ℕ
hex_value zero value cs = Some value
hex_value (suc n) value [] = None
hex_value (suc n) value (c ∷ cs) = if is_digit c 16 then hex_value n (value * 16 + digit_value c) cs else None

-- the code point of an escape of two characters and n digits, which is no surrogate and at most 10FFFF
abbrev pub code_point : ℕ → Option ℕ → Piece
code_point n None = piece (refused syntax) 1
code_point n (Some c) = if scalar c then piece (gives (c ∷ [])) (n + 2) else piece (refused syntax) 1

-- a backslash before these characters: `\u` with four digits, `\U` with eight, else any character as itself
abbrev pub escape : List ℕ → Piece
escape [] = piece (refused syntax) 1
escape (c ∷ cs) =
    if c == small_u then code_point 4 (hex_value 4 0 cs)
    else if c == capital_u then code_point 8 (hex_value 8 0 cs)
    else piece (gives (c ∷ [])) 2

-- the characters up to the quote that ends them, `''` being an apostrophe, and how many they are with that quote
pub record Quoted : Type 0 where
  pub text : List ℕ
  pub size : ℕ

abbrev pub after_quoted : ℕ → ℕ → Quoted → Quoted
after_quoted c n q = record { text = c ∷ q.text; size = q.size + n }

unfoldable pub quoted : List ℕ → Option Quoted
quoted [] = None
quoted (c ∷ []) = if c == apostrophe then Some (record { text = []; size = 1 }) else None
quoted (c ∷ d ∷ cs) =
    let doubled = option_map (after_quoted apostrophe 2) (quoted cs) in
    let other = option_map (after_quoted c 1) (quoted (d ∷ cs)) in
    if not (c == apostrophe) then other else if d == apostrophe then doubled else Some (record { text = []; size = 1 })

-- a quote before these characters: `''` is an apostrophe, else all up to the quote that ends it
abbrev pub quote : List ℕ → Piece
quote cs = if begins_with apostrophe cs then piece (gives (apostrophe ∷ [])) 2 else option_map_or (λ q. piece (gives q.text) (q.size + 1)) (quoted cs) (piece (refused syntax) 1)

-- the piece that begins with a character, before others
abbrev pub piece_of : ℕ → List ℕ → Piece
piece_of c cs =
    if is_white_space c then piece skipped 1
    else if c == number_sign then piece skipped (length (take_while (λ x. not (is_line_end x)) cs) + 1)
    else if c == ampersand then piece resets 1
    else if c == less_than then less_signs (less_run cs + 1) (drop (less_run cs) cs)
    else if c == equals then operator same 1 cs
    else if c == solidus then piece expands 1
    else if c == apostrophe then quote cs
    else if c == backslash then escape cs
    else if is_left_out c then piece (refused left_out) 1
    else if is_plain c then piece (gives (c ∷ [])) 1
    else piece (refused syntax) 1

-- a piece at its byte, and the byte after it
pub record Part : Type 0 where
  pub kind : Kind
  pub at : ℕ
  pub after : ℕ

abbrev pub part_at : ℕ → Piece → List ℕ → Part
part_at at p text = record { kind = p.kind; at = at; after = at + length (encode_utf8_all (take p.size text)) }

-- the text from a byte on in pieces, at most n of them; each has a character or more
unfoldable pub parts_within : ℕ → ℕ → List ℕ → List Part
parts_within zero at text = []
parts_within (suc n) at [] = []
parts_within (suc n) at (c ∷ cs) =
    let p = part_at at (piece_of c cs) (c ∷ cs) in
    p ∷ parts_within n p.after (drop (piece_of c cs).size (c ∷ cs))

-- all pieces of a text that begins at a byte
abbrev pub parts_from : ℕ → List ℕ → List Part
parts_from at text = parts_within (length text) at text

abbrev pub parts : List ℕ → List Part
parts text = parts_from 0 text

-- Strings

abbrev pub is_operator : Kind → Bool
is_operator resets = true
is_operator (relates op) = true
is_operator left_out_relation = true
is_operator expands = true
is_operator skipped = false
is_operator (gives cs) = false
is_operator (refused cause) = false

-- an operator, and the pieces of the string after it
pub record Segment : Type 0 where
  pub operator : Part
  pub pieces : List Part

-- the pieces before the first operator, and each operator with its string
pub record Segments : Type 0 where
  pub leading : List Part
  pub all : List Segment

-- with one more piece in front
abbrev pub with_part : Part → Segments → Segments
with_part p s = if is_operator p.kind then record { leading = []; all = record { operator = p; pieces = s.leading } ∷ s.all } else record { leading = p ∷ s.leading; all = s.all }

abbrev pub segments : List Part → Segments
segments [] = record { leading = []; all = [] }
segments (p ∷ ps) = with_part p (segments ps)

-- the characters that a piece gives to a string
abbrev pub given : Kind → List ℕ
given (gives cs) = cs
given skipped = []
given resets = []
given (relates op) = []
given left_out_relation = []
given expands = []
given (refused cause) = []

-- the characters of a string
abbrev pub string_of : List Part → List ℕ
string_of ps = flat_map (λ p. given p.kind) ps

-- Faults

abbrev pub fault : RuleCause → ℕ → List RuleFault
fault cause at = record { at = at; cause = cause } ∷ []

abbrev pub fault_if : Bool → RuleCause → ℕ → List RuleFault
fault_if b cause at = if b then fault cause at else []

-- of a piece of a string
abbrev pub piece_faults : ℕ → Kind → List RuleFault
piece_faults at (refused cause) = fault cause at
piece_faults at skipped = []
piece_faults at (gives cs) = []
piece_faults at resets = []
piece_faults at (relates op) = []
piece_faults at left_out_relation = []
piece_faults at expands = []

abbrev pub part_faults : Part → List RuleFault
part_faults p = piece_faults p.at p.kind

-- no character may come before the first operator; a quote or an escape is one
abbrev pub leading_kind_faults : ℕ → Kind → List RuleFault
leading_kind_faults at (gives cs) = fault syntax at
leading_kind_faults at (refused cause) = fault cause at
leading_kind_faults at skipped = []
leading_kind_faults at resets = []
leading_kind_faults at (relates op) = []
leading_kind_faults at left_out_relation = []
leading_kind_faults at expands = []

abbrev pub leading_faults : Part → List RuleFault
leading_faults p = leading_kind_faults p.at p.kind

-- at the end of a string, with the byte after its operator: it is empty, or its NFD is not safe or has too many code points. An NFD
-- is not safe only where it has a long run, since none of its code points decomposes further: `is_safe-nfd` in `proofs/SafeForms`
abbrev pub end_faults : ℕ → List ℕ → List RuleFault
end_faults at [] = fault empty_string at
end_faults at (c ∷ cs) = fault_if (not (is_safe (nfd (c ∷ cs)))) long_run at ++ fault_if (nat_lt MAX_KEY (length (nfd (c ∷ cs)))) key_too_long at

-- what comes before an operator: nothing, the string of a reset or an expansion, or an item
pub data Before : Type 0 where
  nothing : Before
  no_item : Before
  item : Before

abbrev pub is_nothing : Before → Bool
is_nothing nothing = true
is_nothing no_item = false
is_nothing item = false

abbrev pub is_item : Before → Bool
is_item nothing = false
is_item no_item = false
is_item item = true

-- what an operator's string is to the next operator
abbrev pub before_next : Kind → Before
before_next (relates op) = item
before_next left_out_relation = item
before_next resets = no_item
before_next expands = no_item
before_next skipped = no_item
before_next (gives cs) = no_item
before_next (refused cause) = no_item

-- how many relations an operator begins
abbrev pub counted : Kind → ℕ
counted (relates op) = 1
counted left_out_relation = 1
counted resets = 0
counted expands = 0
counted skipped = 0
counted (gives cs) = 0
counted (refused cause) = 0

-- of the operator of a relation, after this many relations: before the first reset, left out, one too many
abbrev pub relation_faults : Before → ℕ → ℕ → Bool → List RuleFault
relation_faults before count at is_left = fault_if (is_nothing before) syntax at ++ fault_if is_left left_out at ++ fault_if (count == MAX_RELATIONS) too_many_relations at

-- of an operator
abbrev pub operator_faults : Before → ℕ → ℕ → Kind → List RuleFault
operator_faults before count at (relates op) = relation_faults before count at false
operator_faults before count at left_out_relation = relation_faults before count at true
operator_faults before count at expands = fault_if (not (is_item before)) syntax at
operator_faults before count at resets = []
operator_faults before count at skipped = []
operator_faults before count at (gives cs) = []
operator_faults before count at (refused cause) = []

-- in the order in which they are met: of each operator, within its string, at the end of its string
abbrev pub segment_faults : Before → ℕ → List Segment → List RuleFault
segment_faults before count [] = []
segment_faults before count (s ∷ ss) =
    operator_faults before count s.operator.at s.operator.kind
    ++ (flat_map part_faults s.pieces
    ++ (end_faults s.operator.after (string_of s.pieces)
    ++ segment_faults (before_next s.operator.kind) (count + counted s.operator.kind) ss))

abbrev pub faults : Segments → List RuleFault
faults s = flat_map leading_faults s.leading ++ segment_faults nothing 0 s.all

-- Chains

-- what the last segments say: an expansion and relations of what comes before them, and chains
pub record Grouped : Type 0 where
  pub expansion : List ℕ
  pub relations : List Relation
  pub chains : List Chain

-- with one more operator and its string in front
abbrev pub with_segment : Kind → List ℕ → Grouped → Grouped
with_segment resets string g = record { expansion = []; relations = []; chains = record { reset = string; relations = g.relations } ∷ g.chains }
with_segment (relates op) string g = record { expansion = []; relations = record { op = op; item = string; expansion = g.expansion } ∷ g.relations; chains = g.chains }
with_segment expands string g = record { expansion = string; relations = g.relations; chains = g.chains }
with_segment left_out_relation string g = g
with_segment skipped string g = g
with_segment (gives cs) string g = g
with_segment (refused cause) string g = g

-- every string in NFD (UAX #15)
abbrev pub grouped : List Segment → Grouped
grouped [] = record { expansion = []; relations = []; chains = [] }
grouped (s ∷ ss) = with_segment s.operator.kind (nfd (string_of s.pieces)) (grouped ss)

-- The rules of a text

-- the chains, or the fault that is met first
abbrev pub first_or : {A : Type 0} → List RuleFault → A → Result A RuleFault
first_or [] a = Ok a
first_or (f ∷ fs) a = Err f

unfoldable pub rules_of : List ℕ → Result (List Chain) RuleFault
rules_of text = let s = segments (parts text) in first_or (faults s) (grouped s.all).chains
