-- What was read of a text, and why it is refused.
use Rattle.std.proofs.Common.{◌≡◌, ℕ, ◌+◌, ◌-◌, ◌<◌, ◌≤◌, List, [], ◌++◌, length, take, drop, length-take, length-drop, refl, sym, ap, ◌∙◌, arith, append_assoc, length-append, inl, inr}
use Rattle.std.proofs.KnownBytes.{Consumes-nil}
use Rattle.std.proofs.lemmas.List.{append-nil}
use Rattle.std.specs.Io.KnownBytes.{Consumes}
use Rattle.std.specs.Prelude.{Result, Ok, Err, Option, MatchOption, MatchResult, IfErr}
use Rattle.uca_io.specs.LineFold.{Fold, End, ends, stops, fault_at, with_bytes, with_text}
use Rattle.uca_io.specs.LineProgress.{fault_by, remaining, GoesOn, HasRead, IsOfText, StopsAt}
use Rattle.uca_io.specs.LineReader.{FailsFirst, GivesText, IsFaulty, StopsBy, StopsLines}
use Rattle.uca_io.specs.Reader.{ReaderState, Gives, GivesAll, GivesAndFails}
use Rattle.uca_io.specs.declared.limits.TheConstants.{MAX_INPUT}
use Rattle.uca_io.specs.declared.line_reader.LineCause.{LineCause}
use Rattle.uca_io.specs.declared.line_reader.LineCause.TheVariants.{LineTooLong, TooLarge, Read, Refused}
use Rattle.uca_io.specs.declared.line_reader.LineFault.{LineFault}
use Rattle.uca_io.specs.declared.line_reader.Progress.{Progress}
use Rattle.uca_io.proofs.FoldLemmas.{text-front, text-large, text-within}
use Rattle.uca_io.proofs.LineLemmas.{open_nil}
use Rattle.uca_io.proofs.ProgressLemmas.{last_line, fault-change}
use Rattle.uca_io.proofs.ReaderLemmas.{Gives-more, cut_chunk}

-- before the first byte
pub HasRead-start : {A C : Type 0} (f : Fold A C) (a : A) (old : ReaderState) (p : Progress) → p.number ≡ 1 → p.held.items ≡ [] → HasRead f a old old MAX_INPUT p a
HasRead-start f a old p first none = record {
  bytes = [];
  gives = record { given = Consumes-nil _; failures = refl };
  room = refl;
  same = λ end more. ap (λ (xs : List ℕ). with_bytes f end 1 a (xs ++ more)) (sym none) ∙ ap (λ (n : ℕ). with_bytes f end n a (p.held.items ++ more)) (sym first);
  held = open_nil p.held.items none;
  short = omega (arith, ap (length {A = ℕ}) none);
  count = omega (arith, first, ap (length {A = ℕ}) none);
}

-- the front of a chunk was read
pub HasRead-chunk : {A C : Type 0} (f : Fold A C) (a b d : A) (old mid new : ReaderState) (left n : ℕ) (p q : Progress) (buf : List ℕ) (has : HasRead f a old mid left p b) → Consumes mid.coming new.coming (take n buf) → new.failures ≡ mid.failures → n ≤ left → n ≤ length buf
    → GoesOn f p b (take n buf) q d [] → HasRead f a old new (left - n) q d
HasRead-chunk f a b d old mid new left n p q buf has given failures fits within goes = record {
  bytes = has.bytes ++ take n buf;
  gives = Gives-more old mid new has.bytes (take n buf) has.gives given failures;
  room = omega (arith, has.room, length-append has.bytes (take n buf), length-take n buf);
  same = λ end more. ap (with_bytes f end 1 a) (append_assoc has.bytes (take n buf) more) ∙ has.same end (take n buf ++ more) ∙ goes.same end more;
  held = goes.held;
  short = goes.short;
  count = omega (arith, has.count, goes.count, length-append has.bytes (take n buf));
}

-- a fault of the text, by its cause
refused : {A C K : Type 0} (f : Fold A C) (fault_of : K → Option C) (possible : K → Type 0) (a : A) (old new : ReaderState) (line : ℕ) (cause : LineCause K) (bytes : List ℕ) → length bytes ≤ MAX_INPUT + 1 → Gives old new bytes → IsOfText possible cause
    → MatchOption (fault_by f fault_of cause) (Unit {0}) (IsFaulty (with_text f a) old new line) → StopsBy f fault_of possible a old new line cause
refused f fault_of possible a old new line LineTooLong bytes within gives mine says = says
refused f fault_of possible a old new line TooLarge bytes within gives mine says = says
refused f fault_of possible a old new line Read bytes within gives mine says = absurd mine
refused f fault_of possible a old new line (Refused cause) bytes within gives mine says = (mine, (record { bytes = bytes; within = within; gives = gives }, says))

-- what the lines amount to, or the fault at the end of a text
pub at_end : {A C K B : Type 0} (f : Fold A C) (fault_of : K → Option C) (possible : K → Type 0) (a b d : A) (old mid new : ReaderState) (left : ℕ) (p : Progress) (result : Result B (LineFault K)) (has : HasRead f a old mid left p b) → GivesAll old new has.bytes
    → MatchResult result (λ _. remaining f ends p b [] ≡ Ok d) (λ fault. MatchOption (fault_by f fault_of fault.cause) (Unit {0}) (λ c. remaining f ends p b [] ≡ fault_at fault.line c)) → IfErr result (λ fault. IsOfText possible fault.cause)
    → MatchResult result (λ _. GivesText (with_text f a) old new d) (StopsLines f fault_of possible a old new)
at_end {A} {C} {K} {B} f fault_of possible a b d old mid new left p result has all says mine =
    let bytes = has.bytes in
    let within : length bytes ≤ MAX_INPUT = omega (arith, has.room) in
    let same : with_text f a ends bytes ≡ remaining f ends p b [] = text-within f ends a bytes within ∙ ap (with_bytes f ends 1 a) (sym (append-nil bytes)) ∙ has.same ends [] in
    by_result result says mine same
  where
    by_result : (r : Result B (LineFault K)) → MatchResult r (λ _. remaining f ends p b [] ≡ Ok d) (λ fault. MatchOption (fault_by f fault_of fault.cause) (Unit {0}) (λ c. remaining f ends p b [] ≡ fault_at fault.line c)) → IfErr r (λ fault. IsOfText possible fault.cause)
        → with_text f a ends has.bytes ≡ remaining f ends p b [] → MatchResult r (λ _. GivesText (with_text f a) old new d) (StopsLines f fault_of possible a old new)
    by_result (Ok x) says mine same = record { bytes = has.bytes; within = omega (arith, has.room); gives = all; says = same ∙ says }
    by_result (Err fault) says mine same = refused f fault_of possible a old new fault.line fault.cause has.bytes (omega (arith, has.room)) all.gives mine
        (fault-change (fault_by f fault_of fault.cause) (λ c. remaining f ends p b [] ≡ fault_at fault.line c) (IsFaulty (with_text f a) old new fault.line) (λ c faulty. inr (record { bytes = has.bytes; within = omega (arith, has.room); gives = all; says = same ∙ faulty })) says)

-- a piece that is at fault
pub in_piece : {A C K : Type 0} (f : Fold A C) (fault_of : K → Option C) (possible : K → Type 0) (a b : A) (old mid new : ReaderState) (left : ℕ) (p : Progress) (piece : List ℕ) (fault : LineFault K) (has : HasRead f a old mid left p b) → Consumes mid.coming new.coming piece → new.failures ≡ mid.failures → length piece ≤ left
    → StopsAt f fault_of p b piece fault → IsOfText possible fault.cause → StopsLines f fault_of possible a old new fault
in_piece {A} {C} f fault_of possible a b old mid new left p piece fault has given failures fits stop mine =
    let bytes = has.bytes ++ piece in
    let gives : Gives old new bytes = Gives-more old mid new has.bytes piece has.gives given failures in
    let room : length bytes + (left - length piece) ≡ MAX_INPUT = omega (arith, has.room, length-append has.bytes piece) in
    refused f fault_of possible a old new fault.line fault.cause bytes (omega (arith, room)) gives mine
    (fault-change (fault_by f fault_of fault.cause) (λ c. (end : End C) (more : List ℕ) → remaining f end p b (piece ++ more) ≡ fault_at fault.line c) (IsFaulty (with_text f a) old new fault.line)
    (λ c faulty. inl (record {
      bytes = bytes;
      within = omega (arith, room);
      gives = gives;
      says = λ end more. text-front f a bytes (left - length piece) (fault_at fault.line c) room
          (λ e m. ap (with_bytes f e 1 a) (append_assoc has.bytes piece m) ∙ has.same e (piece ++ m) ∙ faulty e m) end more;
    })) stop)

-- the front of a chunk has a byte too much
pub in_large_chunk : {A C K : Type 0} (f : Fold A C) (fault_of : K → Option C) (possible : K → Type 0) (a b : A) (old mid new : ReaderState) (left n : ℕ) (p : Progress) (buf : List ℕ) (fault : LineFault K) (has : HasRead f a old mid left p b) → Consumes mid.coming new.coming (take n buf) → new.failures ≡ mid.failures → left < n → n ≤ left + 1 → n ≤ length buf
    → MatchOption (fault_by f fault_of fault.cause) (Unit {0}) (λ c. remaining f (stops f.large) p b (take left buf) ≡ fault_at fault.line c) → IsOfText possible fault.cause → StopsLines f fault_of possible a old new fault
in_large_chunk f fault_of possible a b old mid new left n p buf fault has given failures more one within stop mine =
    let bytes = has.bytes ++ take n buf in
    let front = take left buf in
    let rest = drop left (take n buf) in
    let full : length (has.bytes ++ front) ≡ MAX_INPUT = omega (arith, has.room, length-append has.bytes front, length-take left buf) in
    let whole : bytes ≡ (has.bytes ++ front) ++ rest = ap (λ (xs : List ℕ). has.bytes ++ xs) (cut_chunk left n buf (omega arith)) ∙ sym (append_assoc has.bytes front rest) in
    let some : 0 < length rest = omega (arith, length-drop left (take n buf), length-take n buf) in
    let size : length bytes ≤ MAX_INPUT + 1 = omega (arith, has.room, length-append has.bytes (take n buf), length-take n buf) in
    let gives : Gives old new bytes = Gives-more old mid new has.bytes (take n buf) has.gives given failures in
    refused f fault_of possible a old new fault.line fault.cause bytes size gives mine
    (fault-change (fault_by f fault_of fault.cause) (λ c. remaining f (stops f.large) p b front ≡ fault_at fault.line c) (IsFaulty (with_text f a) old new fault.line)
    (λ c faulty. inl (record {
      bytes = bytes;
      within = size;
      gives = gives;
      says = λ end more. ap (λ (xs : List ℕ). with_text f a end (xs ++ more)) whole ∙ text-large f a (has.bytes ++ front) rest full some end more ∙ has.same (stops f.large) front ∙ faulty;
    })) stop)

-- a reader that fails
pub at_failure : {A C : Type 0} (f : Fold A C) (a b : A) (old mid new : ReaderState) (left : ℕ) (p : Progress) (has : HasRead f a old mid left p b) → GivesAndFails old new has.bytes → FailsFirst (with_text f a) old new p.number f.failed
at_failure f a b old mid new left p has fails =
    let bytes = has.bytes in
    let within : length bytes ≤ MAX_INPUT = omega (arith, has.room) in
    record {
      bytes = bytes;
      within = within;
      gives = fails;
      says = text-within f (stops f.failed) a bytes within ∙ ap (with_bytes f (stops f.failed) 1 a) (sym (append-nil bytes)) ∙ has.same (stops f.failed) [] ∙ last_line f (stops f.failed) p.number b p.held.items has.held has.short;
    }
