-- What the scan returns for pieces of the text of rules, by their kinds.
use Rattle.std.specs.Prelude.{◌≡◌, ℕ, ◌+◌, ◌-◌, Bool, true, false, List, [], ◌∷◌, ◌++◌, Option, Some, None, Result, Ok, MatchOption, MatchResult, if◌then◌else◌}
use Rattle.std.specs.Option.{option_map_or}
use Rattle.uca_model.specs.RuleText as text
use Rattle.uca_model.specs.RuleText.{Kind, resets, relates, left_out_relation, expands, skipped, gives, refused, given, piece_of, syntax, left_out, is_left_out, is_plain, Quoted}
use Rattle.uca_tailor.specs.Chains.{operator_of}
use Rattle.uca_tailor.specs.Faults.{reported_text_cause}
use Rattle.uca_tailor.specs.Scan.{ScanState, passed}
use Rattle.uca_tailor.specs.declared.faults.RuleCause.{RuleCause}
use Rattle.uca_tailor.specs.declared.pieces.Operator.{Operator}
use Rattle.uca_tailor.specs.declared.pieces.Operator.TheVariants as operator
use Rattle.uca_tailor.specs.declared.pieces.Piece.{Piece}
use Rattle.uca_tailor.specs.declared.pieces.Piece.TheVariants as piece

abbrev pub kind_of : Operator → Kind
kind_of operator.Reset = resets
kind_of (operator.Relation op) = relates (operator_of op)
kind_of operator.LeftOut = left_out_relation
kind_of operator.Expansion = expands

-- a piece that is no fault; the characters that it gives are in the string
abbrev pub IsOfKind : Piece → Kind → Type 0
IsOfKind piece.Skipped k = k ≡ skipped
IsOfKind piece.Given k = k ≡ gives (given k)
IsOfKind (piece.Operator o) k = k ≡ kind_of o

-- a piece whose first character was taken is taken whole, and its characters follow a string
pub record TakesPiece (p : text.Piece) (s : ScanState) (string : List ℕ) (t : ScanState) (longer : List ℕ) (taken : Piece) : Type 0 where
  pub kind : IsOfKind taken p.kind
  pub scan : t ≡ passed (p.size - 1) s
  pub appends : longer ≡ string ++ given p.kind

-- a piece with characters of a string, or with a fault: only these allocate
abbrev pub takes_memory : Kind → Bool
takes_memory (gives cs) = true
takes_memory (refused cause) = true
takes_memory skipped = false
takes_memory resets = false
takes_memory (relates op) = false
takes_memory left_out_relation = false
takes_memory expands = false

-- a piece is refused, or an allocation for it fails
abbrev pub RefusesPiece : text.Piece → RuleCause → Type 0
RefusesPiece p cause = MatchOption (reported_text_cause cause) (takes_memory p.kind ≡ true) (λ stated. p.kind ≡ refused stated)

-- one of the two
abbrev pub ReadsPiece : text.Piece → ScanState → List ℕ → ScanState → List ℕ → Result Piece RuleCause → Type 0
ReadsPiece p s string t longer result = MatchResult result (TakesPiece p s string t longer) (RefusesPiece p)

-- Some pieces

-- after a quote
abbrev pub quoted_piece : Option Quoted → text.Piece
quoted_piece q = option_map_or (λ q. text.piece (gives q.text) (q.size + 1)) q (text.piece (refused syntax) 1)

-- a character that begins no other piece
abbrev pub plain_piece : ℕ → text.Piece
plain_piece c =
    if is_left_out c then text.piece (refused left_out) 1
    else if is_plain c then text.piece (gives (c ∷ [])) 1
    else text.piece (refused syntax) 1

abbrev pub first_piece : List ℕ → Option text.Piece
first_piece [] = None
first_piece (c ∷ cs) = Some (piece_of c cs)

-- The next piece

-- a piece is taken whole
pub record TakesNext (p : text.Piece) (s : ScanState) (string : List ℕ) (t : ScanState) (longer : List ℕ) (taken : Piece) : Type 0 where
  pub kind : IsOfKind taken p.kind
  pub scan : t ≡ passed p.size s
  pub appends : longer ≡ string ++ given p.kind

-- at the end of the text there is none, and the string stays
abbrev pub ReadsNext : Option text.Piece → ScanState → List ℕ → ScanState → List ℕ → Result (Option Piece) RuleCause → Type 0
ReadsNext None s string t longer result = (result ≡ Ok None) × (longer ≡ string)
ReadsNext (Some p) s string t longer result = MatchResult result (λ taken. MatchOption taken ⊥ (TakesNext p s string t longer)) (RefusesPiece p)
