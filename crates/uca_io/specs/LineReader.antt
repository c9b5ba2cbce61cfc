-- What a reader of lines does.
use Rattle.std.specs.Prelude.{◌≡◌, ℕ, ◌+◌, ◌≤◌, ◌++◌, List, length, Option, Result, Ok, Err, MatchOption, MatchResult, ◌⊎◌}
use Rattle.uca_io.specs.LineFold.{Fold, End, FaultAt, ends, stops, fault_at, with_text}
use Rattle.uca_io.specs.Reader.{ReaderState, Gives, GivesAll, GivesAndFails}
use Rattle.uca_io.specs.declared.limits.TheConstants.{MAX_INPUT}
use Rattle.uca_io.specs.declared.line_reader.LineCause.{LineCause}
use Rattle.uca_io.specs.declared.line_reader.LineCause.TheVariants.{LineTooLong, TooLarge, Read, Refused}
use Rattle.uca_io.specs.declared.line_reader.LineFault.{LineFault}

-- a state became the one that something leads to, or its fault was reported; a cause without a fault may be in place of either
abbrev pub Leads : {A B C K : Type 0} → (K → Option C) → Result A C → A → Result B K → Type 0
Leads fault_of to new result = MatchResult result (λ _. to ≡ Ok new) (λ cause. MatchOption (fault_of cause) (Unit {0}) (λ c. to ≡ Err c))

-- what the bytes of a text mean, given what follows them: a value, or the first fault
abbrev pub Meaning : Type 0 → Type 0 → Type 0
Meaning A C = End C → List ℕ → Result A (FaultAt C)

-- a reader gave all of a text, and this is what it means
pub record GivesText {A C : Type 0} (meaning : Meaning A C) (old new : ReaderState) (a : A) : Type 0 where
  pub bytes : List ℕ
  pub within : length bytes ≤ MAX_INPUT
  pub gives : GivesAll old new bytes
  pub says : meaning ends bytes ≡ Ok a

-- a reader gave all of a text, which is at fault
pub record GivesFaulty {A C : Type 0} (meaning : Meaning A C) (old new : ReaderState) (line : ℕ) (cause : C) : Type 0 where
  pub bytes : List ℕ
  pub within : length bytes ≤ MAX_INPUT
  pub gives : GivesAll old new bytes
  pub says : meaning ends bytes ≡ fault_at line cause

-- a reader gave a prefix of a text, at most one byte of it past the limit, which is at fault whatever follows
pub record GivesFaultyFront {A C : Type 0} (meaning : Meaning A C) (old new : ReaderState) (line : ℕ) (cause : C) : Type 0 where
  pub bytes : List ℕ
  pub within : length bytes ≤ MAX_INPUT + 1
  pub gives : Gives old new bytes
  pub says : (end : End C) (more : List ℕ) → meaning end (bytes ++ more) ≡ fault_at line cause

-- a reader failed after the front of a text, before which nothing is at fault
pub record FailsFirst {A C : Type 0} (meaning : Meaning A C) (old new : ReaderState) (line : ℕ) (failed : C) : Type 0 where
  pub bytes : List ℕ
  pub within : length bytes ≤ MAX_INPUT
  pub gives : GivesAndFails old new bytes
  pub says : meaning (stops failed) bytes ≡ fault_at line failed

-- the text that a reader gave is at fault, in what it gave so far or at its end
abbrev pub IsFaulty : {A C : Type 0} → Meaning A C → ReaderState → ReaderState → ℕ → C → Type 0
IsFaulty meaning old new line cause = GivesFaultyFront meaning old new line cause ⊎ GivesFaulty meaning old new line cause

-- a reader gave some bytes of a text, at most one of them past the limit
pub record GivesSome (old new : ReaderState) : Type 0 where
  pub bytes : List ℕ
  pub within : length bytes ≤ MAX_INPUT + 1
  pub gives : Gives old new bytes

-- why lines were not read to their end, at a line
abbrev pub StopsBy : {A C K : Type 0} → Fold A C → (K → Option C) → (K → Type 0) → A → ReaderState → ReaderState → ℕ → LineCause K → Type 0
StopsBy f fault_of possible a old new line LineTooLong = IsFaulty (with_text f a) old new line f.long
StopsBy f fault_of possible a old new line TooLarge = IsFaulty (with_text f a) old new line f.large
StopsBy f fault_of possible a old new line Read = FailsFirst (with_text f a) old new line f.failed
StopsBy f fault_of possible a old new line (Refused cause) = possible cause × (GivesSome old new × MatchOption (fault_of cause) (Unit {0}) (IsFaulty (with_text f a) old new line))

-- the same of a fault
abbrev pub StopsLines : {A C K : Type 0} → Fold A C → (K → Option C) → (K → Type 0) → A → ReaderState → ReaderState → LineFault K → Type 0
StopsLines f fault_of possible a old new fault = StopsBy f fault_of possible a old new fault.line fault.cause
