-- What the exports report of the outcome of a call: a status and a fault.
use Rattle.std.specs.Prelude.{◌≡◌, ℕ, ◌==◌, ℤ, Bool, pos, negsuc, List, Result, Ok, Err, if◌then◌else◌}
use Rattle.std.specs.Option.{option_map_or}
use Rattle.std.specs.declared.cmp.Ordering.{Ordering}
use Rattle.std.specs.declared.cmp.Ordering.TheVariants.{Less, Equal, Greater}
use Rattle.uca_allkeys.specs.declared.faults.ReadCause.{ReadCause}
use Rattle.uca_allkeys.specs.declared.faults.ReadCause.TheVariants as table
use Rattle.uca_tailor.specs.declared.faults.RuleCause.{RuleCause}
use Rattle.uca_tailor.specs.declared.faults.RuleCause.TheVariants as rules
use Rattle.uca_tailor.specs.declared.faults.TailorCause.{TailorCause}
use Rattle.uca_tailor.specs.declared.faults.TailorCause.TheVariants as tailoring
use Rattle.uca_handle.specs.Matches.{number_of}
use Rattle.uca_handle.specs.declared.bounds.BoundsSize.{BoundsSize}
use Rattle.uca_handle.specs.declared.faults.BoundsFault.{BoundsFault}
use Rattle.uca_handle.specs.declared.faults.BoundsFault.TheVariants as bounds
use Rattle.uca_handle.specs.declared.faults.CompareFault.{CompareFault}
use Rattle.uca_handle.specs.declared.faults.CompareFault.TheVariants as compare
use Rattle.uca_handle.specs.declared.faults.FingerprintFault.{FingerprintFault}
use Rattle.uca_handle.specs.declared.faults.FingerprintFault.TheVariants as fingerprint
use Rattle.uca_handle.specs.declared.faults.KeyFault.{KeyFault}
use Rattle.uca_handle.specs.declared.faults.KeyFault.TheVariants as key
use Rattle.uca_handle.specs.declared.faults.OpenFault.{OpenFault}
use Rattle.uca_handle.specs.declared.faults.OpenFault.TheVariants as opening
use Rattle.uca_handle.specs.declared.faults.ShareFault.{ShareFault}
use Rattle.uca_handle.specs.declared.faults.ShareFault.TheVariants as share
use Rattle.uca_window.specs.declared.fault.TextFault.{TextFault}
use Rattle.uca_window.specs.declared.fault.TextFault.TheVariants.{NotUtf8, LongRun}
use Rattle.uca_c.specs.declared.numbers.TheConstants.{OK, NOT_UTF8, LONG_RUN, CLOSED, BAD_SETTINGS, NO_MEMORY, BAD_TABLE, BAD_RULES, BAD_TAILORING, TABLE_LINE_TOO_LONG, TABLE_BAD_DIRECTIVE, TABLE_BAD_CODE_POINT, TABLE_KEY_TOO_LONG, TABLE_NO_SEMICOLON, TABLE_BAD_ELEMENT, TABLE_NO_ELEMENT, TABLE_TOO_MANY_ELEMENTS, TABLE_REPEATED, TABLE_BAD_RANGE, TABLE_TOO_LARGE, RULES_SYNTAX, RULES_LEFT_OUT, RULES_EMPTY_STRING, RULES_LONG_RUN, RULES_KEY_TOO_LONG, RULES_TOO_MANY_RELATIONS, RULES_NOT_UTF8, TAILOR_SMALL_WEIGHT, TAILOR_HIGH_RESET, TAILOR_FULL_PRIMARY, TAILOR_FULL_SECONDARY, TAILOR_FULL_TERTIARY, TAILOR_TOO_MANY_ELEMENTS}
use Rattle.uca_c.specs.declared.reports.Digest.{Digest}
use Rattle.uca_c.specs.declared.reports.Fault.{Fault}
use Rattle.uca_c.specs.declared.reports.Report.{Report}

-- a status alone
abbrev pub plain : ℕ → Report
plain status = record { status = status; fault = record { kind = 0; text = 0; at = 0 } }

-- a fault of a kind at a place
abbrev pub placed : ℕ → ℕ → ℕ → Report
placed status kind at = record { status = status; fault = record { kind = kind; text = 0; at = at } }

-- the fault of a text, at a byte
abbrev pub text_report : ℕ → TextFault → Report
text_report text (NotUtf8 at) = record { status = NOT_UTF8; fault = record { kind = 0; text = text; at = at } }
text_report text (LongRun at) = record { status = LONG_RUN; fault = record { kind = 0; text = text; at = at } }

abbrev pub table_kind : ReadCause → ℕ
table_kind table.LineTooLong = TABLE_LINE_TOO_LONG
table_kind table.BadDirective = TABLE_BAD_DIRECTIVE
table_kind table.BadCodePoint = TABLE_BAD_CODE_POINT
table_kind table.KeyTooLong = TABLE_KEY_TOO_LONG
table_kind table.NoSemicolon = TABLE_NO_SEMICOLON
table_kind table.BadElement = TABLE_BAD_ELEMENT
table_kind table.NoElement = TABLE_NO_ELEMENT
table_kind table.TooManyElements = TABLE_TOO_MANY_ELEMENTS
table_kind table.Repeated = TABLE_REPEATED
table_kind table.BadRange = TABLE_BAD_RANGE
table_kind table.TooLarge = TABLE_TOO_LARGE
table_kind table.Read = 0
table_kind table.OutOfMemory = 0

abbrev pub rule_kind : RuleCause → ℕ
rule_kind rules.Syntax = RULES_SYNTAX
rule_kind rules.LeftOut = RULES_LEFT_OUT
rule_kind rules.EmptyString = RULES_EMPTY_STRING
rule_kind rules.LongRun = RULES_LONG_RUN
rule_kind rules.KeyTooLong = RULES_KEY_TOO_LONG
rule_kind rules.TooManyRelations = RULES_TOO_MANY_RELATIONS
rule_kind rules.OutOfMemory = 0

abbrev full_kind : ℕ → ℕ
full_kind level = if level == 1 then TAILOR_FULL_PRIMARY else (if level == 2 then TAILOR_FULL_SECONDARY else TAILOR_FULL_TERTIARY)

abbrev pub tailoring_kind : TailorCause → ℕ
tailoring_kind tailoring.SmallWeight = TAILOR_SMALL_WEIGHT
tailoring_kind tailoring.HighReset = TAILOR_HIGH_RESET
tailoring_kind (tailoring.Full level) = full_kind level
tailoring_kind tailoring.TooManyElements = TAILOR_TOO_MANY_ELEMENTS
tailoring_kind tailoring.OutOfMemory = 0

-- of opening: the line of the table, the byte of the rules or the relation
abbrev pub open_report : Result (Unit {0}) OpenFault → Report
open_report (Ok _) = plain OK
open_report (Err (opening.Table f)) = placed BAD_TABLE (table_kind f.cause) f.line
open_report (Err (opening.RulesNotUtf8 at)) = placed BAD_RULES RULES_NOT_UTF8 at
open_report (Err (opening.Rules f)) = placed BAD_RULES (rule_kind f.cause) f.at
open_report (Err (opening.Tailor f)) = placed BAD_TAILORING (tailoring_kind f.cause) f.relation
open_report (Err opening.OutOfMemory) = plain NO_MEMORY

abbrev pub share_status : Result (Unit {0}) ShareFault → ℕ
share_status (Ok _) = OK
share_status (Err share.Closed) = CLOSED
share_status (Err share.OutOfMemory) = NO_MEMORY

abbrev pub check_report : Result (Unit {0}) TextFault → Report
check_report (Ok _) = plain OK
check_report (Err f) = text_report 1 f

abbrev pub compare_report : Result Ordering CompareFault → Report
compare_report (Ok _) = plain OK
compare_report (Err compare.Closed) = plain CLOSED
compare_report (Err (compare.First f)) = text_report 1 f
compare_report (Err (compare.Second f)) = text_report 2 f

abbrev pub key_report : Result ℕ KeyFault → Report
key_report (Ok _) = plain OK
key_report (Err key.Closed) = plain CLOSED
key_report (Err (key.Text f)) = text_report 1 f
key_report (Err key.OutOfMemory) = plain NO_MEMORY

abbrev pub bounds_report : Result BoundsSize BoundsFault → Report
bounds_report (Ok _) = plain OK
bounds_report (Err bounds.Closed) = plain CLOSED
bounds_report (Err (bounds.Text f)) = text_report 1 f
bounds_report (Err bounds.OutOfMemory) = plain NO_MEMORY

abbrev pub completeness_report : Result Bool KeyFault → Report
completeness_report (Ok _) = plain OK
completeness_report (Err key.Closed) = plain CLOSED
completeness_report (Err (key.Text f)) = text_report 1 f
completeness_report (Err key.OutOfMemory) = plain NO_MEMORY

abbrev pub fingerprint_status : Result (List ℕ) FingerprintFault → ℕ
fingerprint_status (Ok _) = OK
fingerprint_status (Err fingerprint.Closed) = CLOSED
fingerprint_status (Err fingerprint.OutOfMemory) = NO_MEMORY

-- an order as C has it
abbrev pub order_number : Ordering → ℤ
order_number Less = negsuc 0
order_number Equal = pos 0
order_number Greater = pos 1

-- what a result is written to holds after the call
abbrev pub order_after : ℤ → Result Ordering CompareFault → ℤ
order_after before (Ok order) = order_number order
order_after before (Err _) = before

abbrev pub size_after : ℕ → Result ℕ KeyFault → ℕ
size_after before (Ok size) = size
size_after before (Err _) = before

abbrev pub lower_size_after : ℕ → Result BoundsSize BoundsFault → ℕ
lower_size_after before (Ok size) = size.lower
lower_size_after before (Err _) = before

-- 0 where there is no upper end
abbrev pub upper_size_after : ℕ → Result BoundsSize BoundsFault → ℕ
upper_size_after before (Ok size) = option_map_or (λ n. n) size.upper 0
upper_size_after before (Err _) = before

abbrev pub digest_after : Digest → Result (List ℕ) FingerprintFault → Digest
digest_after before (Ok digest) = record { bytes = digest }
digest_after before (Err _) = before

-- 1 where the text is complete, else 0
abbrev pub complete_after : ℕ → Result Bool KeyFault → ℕ
complete_after before (Ok complete) = number_of complete
complete_after before (Err _) = before

-- a call reports an outcome of which this holds
pub record Reports {A : Type 0} (report_of : A → Report) (status : ℕ) (fault : Fault) (Holds : A → Type 0) : Type 0 where
  pub outcome : A
  pub holds : Holds outcome
  pub reported : report_of outcome ≡ record { status = status; fault = fault }

-- the same by a status alone
pub record ReportsStatus {A : Type 0} (status_of : A → ℕ) (status : ℕ) (Holds : A → Type 0) : Type 0 where
  pub outcome : A
  pub holds : Holds outcome
  pub reported : status_of outcome ≡ status

-- the settings are refused
pub record IsRefused (status : ℕ) (fault : Fault) : Type 0 where
  pub refused : status ≡ BAD_SETTINGS
  pub none : fault ≡ record { kind = 0; text = 0; at = 0 }
