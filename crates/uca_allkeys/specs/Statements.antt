-- What the parts of a line say, by the words of the text of a table.
use Rattle.std.specs.Prelude.{◌≡◌, ℕ, ◌<◌, ◌∷◌, length, Result, Ok, Err, MatchResult}
use Rattle.std.specs.Borrow.{Bor}
use Rattle.std.specs.Prelude.{List}
use Rattle.uca_model.specs.TableText as text
use Rattle.uca_weights.specs.declared.element.Element.{Element}
use Rattle.uca_model.specs.TableText.{Cause, elements_after}
use Rattle.uca_allkeys.specs.Faults.{cause_of}
use Rattle.uca_allkeys.specs.declared.faults.LineFault.{LineFault}
use Rattle.uca_allkeys.specs.declared.directive.Directive.{Directive}
use Rattle.uca_allkeys.specs.declared.directive.Directive.TheVariants as directives
use Rattle.uca_allkeys.specs.declared.statement.Entry.{Entry}
use Rattle.uca_allkeys.specs.declared.statement.Statement.{Statement}
use Rattle.uca_allkeys.specs.declared.statement.Statement.TheVariants as said

-- the answer is what the text says, or its fault
abbrev pub Parses : {A B : Type 0} → (A → B) → Result B Cause → Result A LineFault → Type 0
Parses value says result = MatchResult result (λ a. says ≡ Ok (value a)) (λ fault. says ≡ Err (cause_of fault))

-- a value, and what follows it
abbrev pub with_rest : {A : Type 0} → A × Bor (List ℕ) → A × List ℕ
with_rest p = (p.0, p.1.now)

-- what a directive says
abbrev pub directive_of : Directive → text.Statement
directive_of directives.Version = text.version
directive_of (directives.Range r) = text.range r

-- what the text of an entry says
abbrev pub entry_in : Entry → text.Statement
entry_in e = text.entry e.key.items e.elements.items

-- what a statement says, with the entry that was read
abbrev pub statement_in : Entry → Statement → text.Statement
statement_in e said.Nothing = text.nothing
statement_in e (said.Directive d) = directive_of d
statement_in e said.Entry = entry_in e

-- an entry has a code point and an element
abbrev pub IsSomeEntry : Entry → Type 0
IsSomeEntry e = (0 < length e.key.items) × (0 < length e.elements.items)

-- where a statement is an entry, one was read
abbrev pub IsReady : Entry → Statement → Type 0
IsReady e said.Entry = IsSomeEntry e
IsReady e _ = Unit {0}

-- the element of one more part was added, or is at fault, whatever parts follow it
abbrev pub AddsPart : {A : Type 0} → List Element → List ℕ → List Element → Result A LineFault → Type 0
AddsPart old part new result = MatchResult result
    (λ _. (parts : List (List ℕ)) → 0 < length parts → elements_after old (part ∷ parts) ≡ elements_after new parts)
    (λ fault. (parts : List (List ℕ)) → 0 < length parts → elements_after old (part ∷ parts) ≡ Err (cause_of fault))
