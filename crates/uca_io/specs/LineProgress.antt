-- How far the reading of lines has come, and how it stops.
use Rattle.std.specs.Prelude.{◌≡◌, ℕ, ◌+◌, ◌≤◌, List, ◌++◌, length, Option, Some, Result, MatchOption}
use Rattle.uca_io.specs.LineFold.{Fold, FaultAt, End, fault_at, with_bytes}
use Rattle.uca_io.specs.Lines.{IsOpen}
use Rattle.uca_io.specs.Reader.{ReaderState, Gives}
use Rattle.uca_io.specs.declared.limits.TheConstants.{MAX_INPUT, MAX_LINE}
use Rattle.uca_io.specs.declared.line_reader.LineCause.{LineCause}
use Rattle.uca_io.specs.declared.line_reader.LineCause.TheVariants.{LineTooLong, TooLarge, Read, Refused}
use Rattle.uca_io.specs.declared.line_reader.LineFault.{LineFault}
use Rattle.uca_io.specs.declared.line_reader.Progress.{Progress}

-- the fault for a cause, if there is one
abbrev pub fault_by : {A C K : Type 0} → Fold A C → (K → Option C) → LineCause K → Option C
fault_by f fault_of LineTooLong = Some f.long
fault_by f fault_of TooLarge = Some f.large
fault_by f fault_of Read = Some f.failed
fault_by f fault_of (Refused cause) = fault_of cause

-- the fault is one of the text, not of its reader
abbrev pub IsOfText : {K : Type 0} → (K → Type 0) → LineCause K → Type 0
IsOfText possible Read = ⊥
IsOfText possible (Refused cause) = possible cause
IsOfText possible _ = Unit {0}

-- what a text amounts to, if these bytes follow those that were read
abbrev pub remaining : {A C : Type 0} → Fold A C → End C → Progress → A → List ℕ → Result A (FaultAt C)
remaining f end p a more = with_bytes f end p.number a (p.held.items ++ more)

-- a text amounts to the same from one place on as from another
pub record GoesOn {A C : Type 0} (f : Fold A C) (old : Progress) (a : A) (front : List ℕ) (new : Progress) (b : A) (rest : List ℕ) : Type 0 where
  pub same : (end : End C) (more : List ℕ) → remaining f end old a (front ++ more) ≡ remaining f end new b (rest ++ more)
  pub held : IsOpen new.held.items
  pub short : length new.held.items ≤ MAX_LINE
  pub count : new.number + (length new.held.items + length rest) ≤ old.number + (length old.held.items + length front)

-- a text is at fault, whatever follows these bytes
abbrev pub StopsAt : {A C K : Type 0} → Fold A C → (K → Option C) → Progress → A → List ℕ → LineFault K → Type 0
StopsAt {C} f fault_of old a bytes fault = MatchOption (fault_by f fault_of fault.cause) (Unit {0}) (λ cause. (end : End C) (more : List ℕ) → remaining f end old a (bytes ++ more) ≡ fault_at fault.line cause)

-- a reader gave some bytes of a text, and the rest is read from here
pub record HasRead {A C : Type 0} (f : Fold A C) (a : A) (old new : ReaderState) (left : ℕ) (p : Progress) (b : A) : Type 0 where
  pub bytes : List ℕ
  pub gives : Gives old new bytes
  pub room : length bytes + left ≡ MAX_INPUT
  pub same : (end : End C) (more : List ℕ) → with_bytes f end 1 a (bytes ++ more) ≡ remaining f end p b more
  pub held : IsOpen p.held.items
  pub short : length p.held.items ≤ MAX_LINE
  pub count : p.number + length p.held.items ≤ 1 + length bytes
