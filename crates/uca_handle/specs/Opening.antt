-- The table that two texts say, and why they say none.
use Rattle.std.specs.Prelude.{◌≡◌, ◌⊎◌, ℕ, List, Option, Some, None, Ok, Err, MatchOption, chars, IsUtf8}
use Rattle.std.specs.Str.Lossy.{utf8_valid_len}
use Rattle.uca_allkeys.specs.Faults.{read_cause}
use Rattle.uca_model.specs.RuleText.{rules_of}
use Rattle.uca_model.specs.Rules.{Chain}
use Rattle.uca_model.specs.Table.{ElementTable}
use Rattle.uca_model.specs.TableText.{ends, table_of_text}
use Rattle.uca_model.specs.Tailoring.{tailored}
use Rattle.uca_tailor.specs.Faults.{reported_text_cause, reported_cause}
use Rattle.uca_tailor.specs.declared.faults.TailorFault.{TailorFault}
use Rattle.uca_handle.specs.declared.faults.OpenFault.{OpenFault}
use Rattle.uca_handle.specs.declared.faults.OpenFault.TheVariants.{Table, RulesNotUtf8, Rules, Tailor, OutOfMemory}

-- a fault as it is reported, by what it means: a failed allocation means nothing
abbrev pub reported : {Cause : Type 0} → Option Cause → OpenFault → OpenFault
reported None f = OutOfMemory
reported (Some cause) f = f

-- the table that the first text says
abbrev pub SaysBase : List ℕ → ElementTable → Type 0
SaysBase table base = table_of_text ends table ≡ Ok base

-- the text of the table is at fault; nothing is said of an allocation failure
abbrev pub RefusesBase : List ℕ → OpenFault → Type 0
RefusesBase table (Table f) = MatchOption (read_cause f.cause) ⊥ (λ cause. table_of_text ends table ≡ Err (record { line = f.line; cause = cause }))
RefusesBase table OutOfMemory = Unit {0}
RefusesBase table _ = ⊥

-- the chains of the rules that a text says
pub record SaysChains (rules : List ℕ) (chains : List Chain) : Type 0 where
  pub utf8 : IsUtf8 rules
  pub says : rules_of (chars rules) ≡ Ok chains

-- the table that such rules make of another
pub record Tailors (base : ElementTable) (rules : List ℕ) (t : ElementTable) : Type 0 where
  pub chains : List Chain
  pub says_chains : SaysChains rules chains
  pub tailoring : tailored base chains ≡ Ok t

-- a relation of such rules is at fault
pub record RefusesRelation (base : ElementTable) (rules : List ℕ) (f : TailorFault) : Type 0 where
  pub chains : List Chain
  pub says_chains : SaysChains rules chains
  pub fault : MatchOption (reported_cause f.cause) ⊥ (λ cause. tailored base chains ≡ Err (record { relation = f.relation; cause = cause }))

-- a text is not UTF-8 from a byte on, or its rules are at fault, or one of their relations; nothing is said of an allocation failure
abbrev pub RefusesRules : ElementTable → List ℕ → OpenFault → Type 0
RefusesRules base rules (RulesNotUtf8 at) = (¬ IsUtf8 rules) × (at ≡ utf8_valid_len rules)
RefusesRules base rules (Rules f) = IsUtf8 rules × MatchOption (reported_text_cause f.cause) ⊥ (λ cause. rules_of (chars rules) ≡ Err (record { at = f.at; cause = cause }))
RefusesRules base rules (Tailor f) = RefusesRelation base rules f
RefusesRules base rules OutOfMemory = Unit {0}
RefusesRules base rules _ = ⊥

-- the table that two texts say: the first one a table, the second the rules that tailor it
abbrev pub SaysTable : List ℕ → List ℕ → ElementTable → Type 0
SaysTable table rules t = (base : ElementTable) × SaysBase table base × Tailors base rules t

-- why two texts say no table: the fault of the first, or that of the rules
abbrev pub RefusesTable : List ℕ → List ℕ → OpenFault → Type 0
RefusesTable table rules f = RefusesBase table f ⊎ ((base : ElementTable) × SaysBase table base × RefusesRules base rules f)
