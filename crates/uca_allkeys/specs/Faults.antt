-- What the faults say, by the words of the text of a table.
use Rattle.std.specs.Prelude.{Option, Some, None, Result, IfErr}
use Rattle.uca_model.specs.TableText.{Cause, line_too_long, bad_directive, bad_code_point, key_too_long, no_semicolon, bad_element, no_element, too_many_elements, repeated, bad_range, too_large, read}
use Rattle.uca_allkeys.specs.declared.faults.LineFault.{LineFault}
use Rattle.uca_allkeys.specs.declared.faults.LineFault.TheVariants as line
use Rattle.uca_allkeys.specs.declared.faults.ReadCause.{ReadCause}
use Rattle.uca_allkeys.specs.declared.faults.ReadCause.TheVariants.{LineTooLong, BadDirective, BadCodePoint, KeyTooLong, NoSemicolon, BadElement, NoElement, TooManyElements, Repeated, BadRange, TooLarge, Read, OutOfMemory}

-- the fault of a line alone
abbrev pub cause_of : LineFault → Cause
cause_of line.BadDirective = bad_directive
cause_of line.BadCodePoint = bad_code_point
cause_of line.KeyTooLong = key_too_long
cause_of line.NoSemicolon = no_semicolon
cause_of line.BadElement = bad_element
cause_of line.NoElement = no_element
cause_of line.TooManyElements = too_many_elements

-- the fault of a text; an allocation failure is not one
abbrev pub read_cause : ReadCause → Option Cause
read_cause LineTooLong = Some line_too_long
read_cause BadDirective = Some bad_directive
read_cause BadCodePoint = Some bad_code_point
read_cause KeyTooLong = Some key_too_long
read_cause NoSemicolon = Some no_semicolon
read_cause BadElement = Some bad_element
read_cause NoElement = Some no_element
read_cause TooManyElements = Some too_many_elements
read_cause Repeated = Some repeated
read_cause BadRange = Some bad_range
read_cause TooLarge = Some too_large
read_cause Read = Some read
read_cause OutOfMemory = None

-- the fault is none of the reader
abbrev pub IsOfText : ReadCause → Type 0
IsOfText Read = ⊥
IsOfText _ = Unit {0}

-- an allocation failure is reported only of what leads on without a fault
abbrev pub FaultFirst : {A : Type 0} → Result A Cause → ReadCause → Type 0
FaultFirst to OutOfMemory = IfErr to (λ _. ⊥)
FaultFirst to _ = Unit {0}
