-- What lines amount to by two folds, of which a map takes the states of one to those of the other; and what follows for the faults.
use Rattle.std.proofs.Common.{◌≡◌, ℕ, ◌+◌, Bool, true, false, List, [], ◌∷◌, ◌++◌, length, nat_lt, take, refl, ap, ◌∙◌, inl, inr, if◌then◌else◌}
use Rattle.std.specs.List.{slice_split}
use Rattle.std.specs.Prelude.{Result, Ok, Err}
use Rattle.uca_io.specs.LineFold.{Fold, FaultAt, End, KeepsSteps, ends, stops, at_line, end_within, fault_at, map_ok, then_with, with_bytes, with_last, with_lines, with_text}
use Rattle.uca_io.specs.LineReader.{FailsFirst, GivesText, IsFaulty, Meaning}
use Rattle.uca_io.specs.Lines.{is_line_feed}
use Rattle.uca_io.specs.Reader.{ReaderState}
use Rattle.uca_io.specs.declared.limits.TheConstants.{MAX_INPUT, MAX_LINE}

-- one line, of which it is known whether it is too long
one_mapped : {A B C : Type 0} (h : A → B) (n : ℕ) (is_long : Bool) (long other : C) (r : Result A C) → other ≡ long
    → at_line n (if is_long then Err other else map_ok h r) ≡ map_ok h (at_line n (if is_long then Err long else r))
one_mapped {A} {B} {C} h n true long other r same = ap (λ (c : C). fault_at {A = B} n c) same
one_mapped h n false long other (Ok a) same = refl
one_mapped h n false long other (Err cause) same = refl

-- what follows it
then_mapped : {A B C : Type 0} (h : A → B) (r : Result A (FaultAt C)) (go : A → Result A (FaultAt C)) (goes : B → Result B (FaultAt C)) → ((a : A) → goes (h a) ≡ map_ok h (go a))
    → then_with goes (map_ok h r) ≡ map_ok h (then_with go r)
then_mapped h (Ok a) go goes later = later a
then_mapped h (Err fault) go goes later = refl

last_mapped : {A B C : Type 0} (h : A → B) (f : Fold A C) (g : Fold B C) (end : End C) (n : ℕ) (a : A) (line : List ℕ) → KeepsSteps h f g → with_last g end n (h a) line ≡ map_ok h (with_last f end n a line)
last_mapped h f g (stops cause) n a line keeps = refl
last_mapped h f g ends n a [] keeps = refl
last_mapped h f g ends n a (b ∷ bytes) keeps = keeps.step n a (b ∷ bytes)

lines_mapped : {A B C : Type 0} (h : A → B) (f : Fold A C) (g : Fold B C) (end : End C) (n : ℕ) (a : A) (lines : List (List ℕ)) → KeepsSteps h f g → with_lines g end n (h a) lines ≡ map_ok h (with_lines f end n a lines)
lines_mapped h f g end n a [] keeps = refl
lines_mapped {A} {B} {C} h f g end n a (last ∷ []) keeps =
    ap (λ (r : Result B C). at_line n (if nat_lt MAX_LINE (length last) then Err g.long else r)) (last_mapped h f g end n a last keeps)
    ∙ one_mapped h n (nat_lt MAX_LINE (length last)) f.long g.long (with_last f end n a last) keeps.long
lines_mapped {A} {B} {C} h f g end n a (line ∷ next ∷ more) keeps =
    let goes : B → Result B (FaultAt C) = λ b. with_lines g end (n + 1) b (next ∷ more) in
    ap (λ (r : Result B C). then_with goes (at_line n (if nat_lt MAX_LINE (length line) then Err g.long else r))) (keeps.step n a line)
    ∙ ap (then_with goes) (one_mapped h n (nat_lt MAX_LINE (length line)) f.long g.long (f.step n a line) keeps.long)
    ∙ then_mapped h (at_line n (if nat_lt MAX_LINE (length line) then Err f.long else f.step n a line)) (λ b. with_lines f end (n + 1) b (next ∷ more)) goes (λ b. lines_mapped h f g end (n + 1) b (next ∷ more) keeps)

-- the end of a text that may be too large
end_same : {A B C : Type 0} (f : Fold A C) (g : Fold B C) (end : End C) (bytes : List ℕ) → g.large ≡ f.large → end_within g end bytes ≡ end_within f end bytes
end_same {A} {B} {C} f g end bytes same = ap (λ (c : C). if nat_lt MAX_INPUT (length bytes) then stops c else end) same

-- a map that keeps steps keeps what a text amounts to
pub text-mapped : {A B C : Type 0} (h : A → B) (f : Fold A C) (g : Fold B C) (a : A) (end : End C) (bytes : List ℕ) → KeepsSteps h f g → with_text g (h a) end bytes ≡ map_ok h (with_text f a end bytes)
unfolding with_text with_bytes
text-mapped {A} {B} {C} h f g a end bytes keeps =
    ap (λ (e : End C). with_lines g e 1 (h a) (slice_split is_line_feed (take MAX_INPUT bytes))) (end_same f g end bytes keeps.large)
    ∙ lines_mapped h f g (end_within f end bytes) 1 a (slice_split is_line_feed (take MAX_INPUT bytes)) keeps

-- Meanings of which one has a part of what the other has

faulty_part : {A B C : Type 0} (part : A → B) (r : Result A (FaultAt C)) (s : Result B (FaultAt C)) (line : ℕ) (cause : C) → s ≡ map_ok part r → r ≡ fault_at line cause → s ≡ fault_at line cause
faulty_part {A} {B} {C} part r s line cause is faulty = is ∙ ap (map_ok part) faulty

pub GivesText-part : {A B C : Type 0} (part : A → B) (m : Meaning A C) (k : Meaning B C) (old new : ReaderState) (a : A) → ((end : End C) (bytes : List ℕ) → k end bytes ≡ map_ok part (m end bytes))
    → GivesText m old new a → GivesText k old new (part a)
GivesText-part part m k old new a is gives = record { bytes = gives.bytes; within = gives.within; gives = gives.gives; says = is ends gives.bytes ∙ ap (map_ok part) gives.says }

pub IsFaulty-part : {A B C : Type 0} (part : A → B) (m : Meaning A C) (k : Meaning B C) (old new : ReaderState) (line : ℕ) (cause : C) → ((end : End C) (bytes : List ℕ) → k end bytes ≡ map_ok part (m end bytes))
    → IsFaulty m old new line cause → IsFaulty k old new line cause
IsFaulty-part part m k old new line cause is (inl front) = inl (record {
  bytes = front.bytes;
  within = front.within;
  gives = front.gives;
  says = λ end more. faulty_part part (m end (front.bytes ++ more)) (k end (front.bytes ++ more)) line cause (is end (front.bytes ++ more)) (front.says end more);
})
IsFaulty-part part m k old new line cause is (inr all) = inr (record { bytes = all.bytes; within = all.within; gives = all.gives; says = faulty_part part (m ends all.bytes) (k ends all.bytes) line cause (is ends all.bytes) all.says })

pub FailsFirst-part : {A B C : Type 0} (part : A → B) (m : Meaning A C) (k : Meaning B C) (old new : ReaderState) (line : ℕ) (failed : C) → ((end : End C) (bytes : List ℕ) → k end bytes ≡ map_ok part (m end bytes))
    → FailsFirst m old new line failed → FailsFirst k old new line failed
FailsFirst-part part m k old new line failed is fails = record { bytes = fails.bytes; within = fails.within; gives = fails.gives; says = faulty_part part (m (stops failed) fails.bytes) (k (stops failed) fails.bytes) line failed (is (stops failed) fails.bytes) fails.says }
