-- The rules: what the bytes of their file say, and the table that they tailor.
use Rattle.std.specs.Prelude.{◌≡◌, ℕ, ◌≤◌, List, length, Option, Some, None, Ok, IsUtf8, chars}
use Rattle.std.specs.Str.Lossy.{utf8_valid_len}
use Rattle.uca_weights.specs.declared.limits.TheConstants.{MAX_RULES}
use Rattle.uca_io.specs.Reader.{ReaderState, GivesAll}
use Rattle.uca_io.specs.ReadWhole.{StopsAt}
use Rattle.uca_model.specs.Rules.{Chain}
use Rattle.uca_model.specs.RuleText.{rules_of}
use Rattle.uca_model.specs.Table.{ElementTable}
use Rattle.uca_model.specs.Tailoring.{tailored}
use Rattle.uca_tailor.specs.Faults.{RefusesText, RefusesRelation}
use Rattle.uca_tailor.specs.declared.faults.RuleFault.{RuleFault}
use Rattle.uca_tailor.specs.declared.faults.TailorFault.{TailorFault}
use Rattle.uca_commands.specs.declared.faults.CliFault.{CliFault}
use Rattle.uca_commands.specs.declared.faults.CliFault.TheVariants as fault
use Rattle.uca_commands.specs.declared.faults.RulesTextCause.{RulesTextCause}
use Rattle.uca_commands.specs.declared.faults.RulesTextCause.TheVariants as cause
use Rattle.uca_io.specs.declared.reading.Stop.TheVariants as stop

-- ---- the rules in a reader

-- the reader gave these bytes and no more: they are not too many
pub record ReadsRuleBytes (old new : ReaderState) (bytes : List ℕ) : Type 0 where
  pub given : GivesAll old new bytes
  pub small : length bytes ≤ MAX_RULES

-- the same of bytes that are a text
pub record ReadsRuleText (old new : ReaderState) (bytes : List ℕ) : Type 0 where
  pub read : ReadsRuleBytes old new bytes
  pub utf8 : IsUtf8 bytes

-- the text in the reader says these rules
pub record ReadsRules (old new : ReaderState) (cs : List Chain) : Type 0 where
  pub bytes : List ℕ
  pub text : ReadsRuleText old new bytes
  pub says : rules_of (chars bytes) ≡ Ok cs

-- the bytes in the reader are not a text after their longest valid prefix
pub record HasNoText (old new : ReaderState) (at : ℕ) : Type 0 where
  pub bytes : List ℕ
  pub read : ReadsRuleBytes old new bytes
  pub other : ¬ IsUtf8 bytes
  pub place : at ≡ utf8_valid_len bytes

-- why the bytes in the reader are not a text, and where
abbrev pub RefusesBytes : RulesTextCause → ReaderState → ReaderState → ℕ → Type 0
RefusesBytes cause.NotUtf8 old new at = HasNoText old new at
RefusesBytes cause.TooLarge old new at = StopsAt MAX_RULES stop.TooLarge old new × (at ≡ MAX_RULES)
RefusesBytes cause.Read old new at = StopsAt MAX_RULES stop.Read old new × (at ≡ 0)

-- the text in the reader is not one of rules
pub record HasFaultyRules (old new : ReaderState) (f : RuleFault) : Type 0 where
  pub bytes : List ℕ
  pub text : ReadsRuleText old new bytes
  pub faulty : RefusesText (rules_of (chars bytes)) f

-- no rules were read
abbrev pub RefusesRules : ReaderState → ReaderState → CliFault → Type 0
RefusesRules old new (fault.RulesText at cause) = RefusesBytes cause old new at
RefusesRules old new (fault.Rules f) = HasFaultyRules old new f
RefusesRules old new fault.OutOfMemory = StopsAt MAX_RULES stop.OutOfMemory old new
RefusesRules old new _ = ⊥

-- ---- the table that they tailor

-- another table tailored by the rules in the reader is this one
pub record TailorsBy (old new : ReaderState) (t tailoring : ElementTable) : Type 0 where
  pub chains : List Chain
  pub rules : ReadsRules old new chains
  pub table : tailored t chains ≡ Ok tailoring

-- a relation of the rules in the reader is at fault
pub record HasFaultyRelation (old new : ReaderState) (t : ElementTable) (f : TailorFault) : Type 0 where
  pub chains : List Chain
  pub rules : ReadsRules old new chains
  pub faulty : RefusesRelation (tailored t chains) f

-- the reader has no rules for this table
abbrev pub StopsTailoring : ReaderState → ReaderState → ElementTable → CliFault → Type 0
StopsTailoring old new t (fault.Tailor f) = HasFaultyRelation old new t f
StopsTailoring old new t f = RefusesRules old new f

-- the table that is used: where there is a reader of rules the tailored one, and otherwise the table itself
abbrev pub Tailors : Option ReaderState → Option ReaderState → ElementTable → ElementTable → Type 0
Tailors (Some old) (Some new) t serving = TailorsBy old new t serving
Tailors None None t serving = serving ≡ t
Tailors _ _ t serving = ⊥

-- no table is used
abbrev pub RefusesTailoring : Option ReaderState → Option ReaderState → ElementTable → CliFault → Type 0
RefusesTailoring (Some old) (Some new) t f = StopsTailoring old new t f
RefusesTailoring _ _ t f = ⊥
