-- What the faults mean, in the terms of the rule text and of tailoring.
use Rattle.std.specs.Prelude.{◌≡◌, Option, Some, None, Result, Err, MatchOption, List}
use Rattle.uca_model.specs.Table.{ElementTable}
use Rattle.uca_model.specs.Rules.{Chain}
use Rattle.uca_model.specs.RuleText as text
use Rattle.uca_model.specs.Tailoring as tailoring
use Rattle.uca_tailor.specs.declared.faults.RuleCause.{RuleCause}
use Rattle.uca_tailor.specs.declared.faults.RuleCause.TheVariants as rule
use Rattle.uca_tailor.specs.declared.faults.RuleFault.{RuleFault}
use Rattle.uca_tailor.specs.declared.faults.TailorCause.{TailorCause}
use Rattle.uca_tailor.specs.declared.faults.TailorCause.TheVariants as tailor
use Rattle.uca_tailor.specs.declared.faults.TailorFault.{TailorFault}

-- the fault of a text; an allocation failure is not one
abbrev pub reported_text_cause : RuleCause → Option text.RuleCause
reported_text_cause rule.Syntax = Some text.syntax
reported_text_cause rule.LeftOut = Some text.left_out
reported_text_cause rule.EmptyString = Some text.empty_string
reported_text_cause rule.LongRun = Some text.long_run
reported_text_cause rule.KeyTooLong = Some text.key_too_long
reported_text_cause rule.TooManyRelations = Some text.too_many_relations
reported_text_cause rule.OutOfMemory = None

-- the fault of a relation; an allocation failure is not one
abbrev pub reported_cause : TailorCause → Option tailoring.TailorCause
reported_cause tailor.SmallWeight = Some tailoring.small_weight
reported_cause tailor.HighReset = Some tailoring.high_reset
reported_cause (tailor.Full level) = Some (tailoring.full level)
reported_cause tailor.TooManyElements = Some tailoring.too_many_elements
reported_cause tailor.OutOfMemory = None

-- a text has this fault first; an allocation failure is at byte 0
abbrev pub RefusesText : Result (List Chain) text.RuleFault → RuleFault → Type 0
RefusesText says f = MatchOption (reported_text_cause f.cause) (f.at ≡ 0) (λ cause. says ≡ Err (record { at = f.at; cause = cause }))

-- a relation is the first at fault; an allocation failure has the number 0
abbrev pub RefusesRelation : Result ElementTable tailoring.TailorFault → TailorFault → Type 0
RefusesRelation says f = MatchOption (reported_cause f.cause) (f.relation ≡ 0) (λ cause. says ≡ Err (record { relation = f.relation; cause = cause }))
