-- Strings between operators, and what the scan has still to read.
use Rattle.std.specs.Prelude.{◌≡◌, ℕ, List, [], ◌∷◌, ◌++◌, flat_map, Option, Some, None, MatchOption}
use Rattle.unicode_normalization.specs.Forms.{nfd}
use Rattle.uca_model.specs.Rules.{IsString}
use Rattle.uca_model.specs.RuleText.{RuleFault, Part, Segment, Segments, segments, string_of, part_faults, end_faults, parts_from}
use Rattle.uca_tailor.specs.Faults.{reported_text_cause}
use Rattle.uca_tailor.specs.Pieces.{kind_of}
use Rattle.uca_tailor.specs.Scan.{ScanState}
use Rattle.uca_tailor.specs.declared.faults.RuleCause.{RuleCause}
use Rattle.uca_tailor.specs.declared.faults.RuleFault as declared
use Rattle.uca_tailor.specs.declared.strings.Found.{Found}
use Rattle.uca_tailor.specs.declared.pieces.Operator.{Operator}

-- the segments of what is left
abbrev pub left_of : ScanState → Segments
left_of s = segments (parts_from s.at s.left)

-- an operator that the scan has just passed
abbrev pub part_of : Operator → ℕ → ScanState → Part
part_of o at s = record { kind = kind_of o; at = at; after = s.at }

-- the segments that begin with an operator that the scan has just passed
abbrev pub segments_from : Option Found → ScanState → List Segment
segments_from None s = []
segments_from (Some f) s = record { operator = part_of f.operator f.at s; pieces = (left_of s).leading } ∷ (left_of s).all

-- Faults

-- a list of faults begins with this one; an allocation failure is at byte 0
abbrev pub BeginsWith : declared.RuleFault → List RuleFault → Type 0
BeginsWith f faults = MatchOption (reported_text_cause f.cause) (f.at ≡ 0) (λ cause. (rest : List RuleFault) × (faults ≡ record { at = f.at; cause = cause } ∷ rest))

-- the cause that some fault at a byte has, unless an allocation fails
abbrev pub BeginsAt : ℕ → RuleCause → List RuleFault → Type 0
BeginsAt at cause faults = MatchOption (reported_text_cause cause) (Unit {0}) (λ stated. (rest : List RuleFault) × (faults ≡ record { at = at; cause = stated } ∷ rest))

-- Strings

-- the pieces before the next operator have no fault, and this one is next
pub record FindsNext (faults_of : Part → List RuleFault) (s : ScanState) (found : Option Found) (t : ScanState) : Type 0 where
  pub fine : flat_map faults_of (left_of s).leading ≡ []
  pub rest : (left_of s).all ≡ segments_from found t

-- of a string
abbrev pub string_faults : ScanState → List RuleFault
string_faults s = flat_map part_faults (left_of s).leading ++ end_faults s.at (string_of (left_of s).leading)

-- a string without fault, in NFD, and the operator after it
pub record ReadsString (s : ScanState) (string : List ℕ) (found : Option Found) (t : ScanState) : Type 0 where
  pub is_string : IsString string
  pub value : string ≡ nfd (string_of (left_of s).leading)
  pub fine : string_faults s ≡ []
  pub rest : (left_of s).all ≡ segments_from found t
