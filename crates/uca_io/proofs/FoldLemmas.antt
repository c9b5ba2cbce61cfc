-- What the bytes of a text amount to, line by line.
use Rattle.std.proofs.Common.{◌≡◌, ℕ, ◌+◌, ◌<◌, ◌≤◌, List, [], ◌∷◌, ◌++◌, length, take, refl, ap, ap₂, subst, ◌∙◌, arith, append_assoc, length-append}
use Rattle.std.proofs.lemmas.Bool.{cond-true, cond-false, lt-ltb, le-ltb}
use Rattle.std.proofs.Math.Seq.{take-append_seam}
use Rattle.std.proofs.lemmas.List.{take_all}
use Rattle.std.proofs.lemmas.List.Splits.{slice_split_none, slice_split_at}
use Rattle.std.specs.List.{slice_split}
use Rattle.std.specs.Prelude.{Result, Ok, Err}
use Rattle.uca_io.specs.LineFold.{Fold, FaultAt, End, stops, at_line, end_within, fault_at, then_with, unless_long, with_bytes, with_last, with_lines, with_text}
use Rattle.uca_io.specs.Lines.{is_line_feed, line_feed, IsOpen}
use Rattle.uca_io.specs.declared.limits.TheConstants.{MAX_INPUT, MAX_LINE}
use Rattle.uca_io.proofs.LineLemmas.{FirstPart, first_part, some_parts, take-room}

-- a line with its LF, before others
lines-more : {A C : Type 0} (f : Fold A C) (end : End C) (n : ℕ) (a : A) (line : List ℕ) (parts : List (List ℕ)) → 0 < length parts
    → with_lines f end n a (line ∷ parts) ≡ then_with (λ after. with_lines f end (n + 1) after parts) (at_line n (unless_long f line (f.step n a line)))
lines-more f end n a line [] some = absurd (omega arith)
lines-more f end n a line (next ∷ more) some = refl

-- a line that is short enough, before others
pub lines-added : {A C : Type 0} (f : Fold A C) (end : End C) (n : ℕ) (a after : A) (line : List ℕ) (parts : List (List ℕ)) → 0 < length parts → length line ≤ MAX_LINE → f.step n a line ≡ Ok after
    → with_lines f end n a (line ∷ parts) ≡ with_lines f end (n + 1) after parts
lines-added {A} {C} f end n a after line parts some short is =
    lines-more f end n a line parts some
    ∙ ap (λ (r : Result A C). then_with (λ b. with_lines f end (n + 1) b parts) (at_line n r)) (cond-false _ (Err f.long) (f.step n a line) (le-ltb MAX_LINE (length line) short) ∙ is)

-- the same with the bytes after it
bytes-line : {A C : Type 0} (f : Fold A C) (end : End C) (n : ℕ) (a : A) (line rest : List ℕ) → IsOpen line
    → with_bytes f end n a (line ++ line_feed ∷ rest) ≡ then_with (λ after. with_bytes f end (n + 1) after rest) (at_line n (unless_long f line (f.step n a line)))
unfolding with_bytes
bytes-line f end n a line rest clear =
    ap (with_lines f end n a) (slice_split_at is_line_feed line line_feed rest clear.line refl) ∙ lines-more f end n a line (slice_split is_line_feed rest) (some_parts is_line_feed rest)

pub bytes-added : {A C : Type 0} (f : Fold A C) (end : End C) (n : ℕ) (a after : A) (line rest : List ℕ) → IsOpen line → unless_long f line (f.step n a line) ≡ Ok after
    → with_bytes f end n a (line ++ line_feed ∷ rest) ≡ with_bytes f end (n + 1) after rest
bytes-added {A} {C} f end n a after line rest clear is = bytes-line f end n a line rest clear ∙ ap (λ (r : Result A C). then_with (λ b. with_bytes f end (n + 1) b rest) (at_line n r)) is

pub bytes-fault : {A C : Type 0} (f : Fold A C) (end : End C) (n : ℕ) (a : A) (cause : C) (line rest : List ℕ) → IsOpen line → unless_long f line (f.step n a line) ≡ Err cause
    → with_bytes f end n a (line ++ line_feed ∷ rest) ≡ fault_at n cause
bytes-fault {A} {C} f end n a cause line rest clear is = bytes-line f end n a line rest clear ∙ ap (λ (r : Result A C). then_with (λ b. with_bytes f end (n + 1) b rest) (at_line n r)) is

lines-long : {A C : Type 0} (f : Fold A C) (end : End C) (n : ℕ) (a : A) (line : List ℕ) (parts : List (List ℕ)) → MAX_LINE < length line → with_lines f end n a (line ∷ parts) ≡ fault_at n f.long
lines-long f end n a line [] long = ap (at_line n) (cond-true _ (Err f.long) (with_last f end n a line) (lt-ltb MAX_LINE (length line) long))
lines-long {A} {C} f end n a line (next ∷ more) long = ap (λ (r : Result A C). then_with (λ b. with_lines f end (n + 1) b (next ∷ more)) (at_line n r)) (cond-true _ (Err f.long) (f.step n a line) (lt-ltb MAX_LINE (length line) long))

-- a line that is too long, whatever follows
pub bytes-long : {A C : Type 0} (f : Fold A C) (end : End C) (n : ℕ) (a : A) (line more : List ℕ) → IsOpen line → MAX_LINE < length line → with_bytes f end n a (line ++ more) ≡ fault_at n f.long
unfolding with_bytes
bytes-long f end n a line more clear long =
    let first : FirstPart (line ++ more) (length line) = first_part line more clear.line in
    let more_long : MAX_LINE < length first.part = let h : length line ≤ length first.part = first.long in omega arith in
    ap (with_lines f end n a) first.is ∙ lines-long f end n a first.part first.parts more_long

-- the bytes after the last LF
pub bytes-last : {A C : Type 0} (f : Fold A C) (end : End C) (n : ℕ) (a : A) (line : List ℕ) → IsOpen line → length line ≤ MAX_LINE → with_bytes f end n a line ≡ at_line n (with_last f end n a line)
unfolding with_bytes
bytes-last f end n a line clear short =
    ap (with_lines f end n a) (slice_split_none is_line_feed line clear.line) ∙ ap (at_line n) (cond-false _ (Err f.long) (with_last f end n a line) (le-ltb MAX_LINE (length line) short))

-- a text that is not too large
pub text-within : {A C : Type 0} (f : Fold A C) (end : End C) (a : A) (bytes : List ℕ) → length bytes ≤ MAX_INPUT → with_text f a end bytes ≡ with_bytes f end 1 a bytes
unfolding with_text
text-within {A} {C} f end a bytes few = ap₂ (λ (e : End C) (bs : List ℕ). with_bytes f e 1 a bs) (cond-false _ (stops f.large) end (le-ltb MAX_INPUT (length bytes) few)) (take_all MAX_INPUT bytes few)

-- the front of a text is at fault, whatever follows
pub text-front : {A C : Type 0} (f : Fold A C) (a : A) (bytes : List ℕ) (room : ℕ) (fault : Result A (FaultAt C)) → length bytes + room ≡ MAX_INPUT → ((end : End C) (more : List ℕ) → with_bytes f end 1 a (bytes ++ more) ≡ fault)
    → (end : End C) (more : List ℕ) → with_text f a end (bytes ++ more) ≡ fault
unfolding with_text
text-front f a bytes room fault is faulty end more =
    ap (with_bytes f (end_within f end (bytes ++ more)) 1 a) (take-room bytes more MAX_INPUT room is) ∙ faulty (end_within f end (bytes ++ more)) (take room more)

-- a text with a byte too much
pub text-large : {A C : Type 0} (f : Fold A C) (a : A) (bytes rest : List ℕ) → length bytes ≡ MAX_INPUT → 0 < length rest → (end : End C) (more : List ℕ) → with_text f a end ((bytes ++ rest) ++ more) ≡ with_bytes f (stops f.large) 1 a bytes
unfolding with_text
text-large {A} {C} f a bytes rest is some end more =
    let whole : (bytes ++ rest) ++ more ≡ bytes ++ (rest ++ more) = append_assoc bytes rest more in
    let many : MAX_INPUT < length ((bytes ++ rest) ++ more) = omega (arith, length-append (bytes ++ rest) more, length-append bytes rest) in
    let front : take MAX_INPUT ((bytes ++ rest) ++ more) ≡ bytes = ap (take MAX_INPUT) whole ∙ subst (λ (m : ℕ). take m (bytes ++ (rest ++ more)) ≡ bytes) is (take-append_seam bytes (rest ++ more)) in
    ap₂ (λ (e : End C) (bs : List ℕ). with_bytes f e 1 a bs) (cond-true _ (stops f.large) end (lt-ltb MAX_INPUT (length ((bytes ++ rest) ++ more)) many)) front
