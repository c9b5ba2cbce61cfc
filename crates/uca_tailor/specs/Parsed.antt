-- Relations and chains that were read, and what is left after them.
use Rattle.std.specs.Prelude.{◌≡◌, ℕ, ◌+◌, ◌≤◌, ◌==◌, Bool, true, false, List, [], ◌∷◌, ◌++◌, length, flat_map, Option, Some, None}
use Rattle.uca_weights.specs.declared.limits.TheConstants.{MAX_RELATIONS}
use Rattle.uca_model.specs.Rules.{IsRelation, IsChain}
use Rattle.uca_model.specs.Rules as rules
use Rattle.uca_model.specs.RuleText.{RuleFault, Kind, Grouped, string_of, part_faults, end_faults, segment_faults, before_next, counted, no_item, nothing, resets, relates, grouped}
use Rattle.uca_tailor.specs.Chains.{operator_of, relation_of, chain_of}
use Rattle.uca_tailor.specs.Scan.{ScanState}
use Rattle.uca_tailor.specs.Strings.{left_of, segments_from}
use Rattle.uca_tailor.specs.declared.rules.Chain.{Chain}
use Rattle.uca_tailor.specs.declared.rules.Op.{Op}
use Rattle.uca_tailor.specs.declared.rules.Relation.{Relation}
use Rattle.uca_tailor.specs.declared.strings.Found.{Found}
use Rattle.uca_tailor.specs.declared.pieces.Operator.{Operator}
use Rattle.uca_tailor.specs.declared.pieces.Operator.TheVariants as operator

-- Operators

abbrev pub expands_here : Operator → Bool
expands_here operator.Reset = false
expands_here (operator.Relation op) = false
expands_here operator.LeftOut = false
expands_here operator.Expansion = true

abbrev pub is_expansion : Option Found → Bool
is_expansion None = false
is_expansion (Some f) = expands_here f.operator

abbrev pub left_out_here : Operator → Bool
left_out_here operator.Reset = false
left_out_here (operator.Relation op) = false
left_out_here operator.LeftOut = true
left_out_here operator.Expansion = false

abbrev pub is_left_out_next : Option Found → Bool
is_left_out_next None = false
is_left_out_next (Some f) = left_out_here f.operator

abbrev pub resets_here : Operator → Bool
resets_here operator.Reset = true
resets_here (operator.Relation op) = false
resets_here operator.LeftOut = false
resets_here operator.Expansion = false

abbrev pub ends_chain : Option Found → Bool
ends_chain None = true
ends_chain (Some f) = resets_here f.operator

-- a chain ends before a reset, or with the text
abbrev pub EndsChain : Option Found → Type 0
EndsChain next = ends_chain next ≡ true

-- the operator of a relation is next, for which there is capacity
pub record IsRelationNext (next : Option Found) (count : ℕ) (op : Op) : Type 0 where
  pub at : ℕ
  pub is : next ≡ Some (record { operator = operator.Relation op; at = at })
  pub room : (count == MAX_RELATIONS) ≡ false

-- What is left

-- the faults after an operator that the scan has just passed, with this many relations before it
abbrev pub after_faults : Kind → ℕ → ScanState → List RuleFault
after_faults kind n s = flat_map part_faults (left_of s).leading ++ (end_faults s.at (string_of (left_of s).leading) ++ segment_faults (before_next kind) (n + counted kind) (left_of s).all)

-- with one more relation in front
abbrev pub with_relation : rules.Relation → Grouped → Grouped
with_relation r g = record { expansion = []; relations = r ∷ g.relations; chains = g.chains }

-- a relation whose operator was read
pub record ReadsRelation (s : ScanState) (op : Op) (r : Relation) (found : Option Found) (t : ScanState) : Type 0 where
  pub is_relation : IsRelation (relation_of r)
  pub faults : (n : ℕ) → after_faults (relates (operator_of op)) n s ≡ segment_faults no_item (n + 1) (segments_from found t)
  pub says : (at : ℕ) → is_left_out_next found ≡ false → grouped (segments_from (Some (record { operator = operator.Relation op; at = at })) s) ≡ with_relation (relation_of r) (grouped (segments_from found t))
  pub fewer : length (segments_from found t) ≤ length (left_of s).all

-- a chain whose reset was read, after this many relations
pub record ReadsChain (s : ScanState) (n : ℕ) (c : Chain) (found : Option Found) (t : ScanState) : Type 0 where
  pub is_chain : IsChain (chain_of c)
  pub faults : after_faults resets n s ≡ segment_faults nothing (n + length c.relations.items) (segments_from found t)
  pub says : (at : ℕ) → (grouped (segments_from (Some (record { operator = operator.Reset; at = at })) s)).chains ≡ chain_of c ∷ (grouped (segments_from found t)).chains
  pub room : n + length c.relations.items ≤ MAX_RELATIONS
  pub fewer : length (segments_from found t) ≤ length (left_of s).all
