-- The result of the lines of a text, one by one.
use Rattle.std.specs.Prelude.{◌≡◌, ℕ, ◌+◌, nat_lt, List, [], ◌∷◌, length, take, Result, Ok, Err, if◌then◌else◌}
use Rattle.std.specs.List.{slice_split}
use Rattle.uca_io.specs.Lines.{is_line_feed}
use Rattle.uca_io.specs.declared.limits.TheConstants.{MAX_INPUT, MAX_LINE}

-- what the line of a number, counted from 1, adds to what the lines before it amount to, or why it is refused; and the
-- causes of a line that is too long, of a text that is too large, and of a read that failed
pub record Fold (A C : Type 0) : Type 0 where
  pub step : ℕ → A → List ℕ → Result A C
  pub long : C
  pub large : C
  pub failed : C

-- what follows the bytes of a text: their end, or a fault of reading
pub data End (C : Type 0) : Type 0 where
  ends : End C
  stops : C → End C

-- the line at fault, counted from 1, and why
pub record FaultAt (C : Type 0) : Type 0 where
  pub line : ℕ
  pub cause : C

abbrev pub fault_at : {A C : Type 0} → ℕ → C → Result A (FaultAt C)
fault_at n cause = Err (record { line = n; cause = cause })

abbrev pub at_line : {A C : Type 0} → ℕ → Result A C → Result A (FaultAt C)
at_line n (Ok a) = Ok a
at_line n (Err cause) = fault_at n cause

-- what follows a step without fault
abbrev pub then_with : {A B E : Type 0} → (A → Result B E) → Result A E → Result B E
then_with f (Ok a) = f a
then_with f (Err e) = Err e

-- a line with at most this many bytes, a CR among them
abbrev pub unless_long : {A C : Type 0} → Fold A C → List ℕ → Result A C → Result A C
unless_long f line r = if nat_lt MAX_LINE (length line) then Err f.long else r

-- the bytes after the last LF: they are a line if the text ends there, and there are any
abbrev pub with_last : {A C : Type 0} → Fold A C → End C → ℕ → A → List ℕ → Result A C
with_last f (stops cause) n a line = Err cause
with_last f ends n a [] = Ok a
with_last f ends n a (b ∷ bytes) = f.step n a (b ∷ bytes)

-- the lines from a number on, of which the last one has no LF; the first fault decides
abbrev pub with_lines : {A C : Type 0} → Fold A C → End C → ℕ → A → List (List ℕ) → Result A (FaultAt C)
with_lines f end n a [] = Ok a
with_lines f end n a (last ∷ []) = at_line n (unless_long f last (with_last f end n a last))
with_lines f end n a (line ∷ next ∷ more) = then_with (λ after. with_lines f end (n + 1) after (next ∷ more)) (at_line n (unless_long f line (f.step n a line)))

-- the same, of the bytes from the line with that number on
unfoldable pub with_bytes : {A C : Type 0} → Fold A C → End C → ℕ → A → List ℕ → Result A (FaultAt C)
with_bytes f end n a bytes = with_lines f end n a (slice_split is_line_feed bytes)

-- what follows the first MAX_INPUT bytes of a text: one byte more is too many
abbrev pub end_within : {A C : Type 0} → Fold A C → End C → List ℕ → End C
end_within f end bytes = if nat_lt MAX_INPUT (length bytes) then stops f.large else end

-- what all lines of a text amount to, or its first fault in the order of its bytes
unfoldable pub with_text : {A C : Type 0} → Fold A C → A → End C → List ℕ → Result A (FaultAt C)
with_text f a end bytes = with_bytes f (end_within f end bytes) 1 a (take MAX_INPUT bytes)

-- a value that is mapped, and a fault as it is
abbrev pub map_ok : {A B E : Type 0} → (A → B) → Result A E → Result B E
map_ok h (Ok a) = Ok (h a)
map_ok h (Err e) = Err e

-- a map takes what each line adds by one fold to what it adds by another
pub record KeepsSteps {A B C : Type 0} (h : A → B) (f : Fold A C) (g : Fold B C) : Type 0 where
  pub step : (n : ℕ) (a : A) (line : List ℕ) → g.step n (h a) line ≡ map_ok h (f.step n a line)
  pub long : g.long ≡ f.long
  pub large : g.large ≡ f.large
