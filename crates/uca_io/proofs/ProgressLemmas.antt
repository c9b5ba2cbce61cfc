-- How the reading of lines goes on, and how it stops.
use Rattle.std.proofs.Common.{◌≡◌, ℕ, ◌+◌, ◌<◌, ◌≤◌, List, [], ◌∷◌, ◌++◌, length, sym, ap, ap₂, ◌∙◌, arith, append_assoc, length-append}
use Rattle.std.proofs.lemmas.List.{append-nil}
use Rattle.std.specs.Prelude.{Result, Ok, Err, Option, Some, None, MatchOption, MatchResult}
use Rattle.uca_io.specs.LineFold.{Fold, End, ends, at_line, fault_at, unless_long, with_bytes, with_last}
use Rattle.uca_io.specs.LineProgress.{fault_by, remaining, GoesOn, StopsAt}
use Rattle.uca_io.specs.Lines.{line_feed, IsOpen}
use Rattle.uca_io.specs.declared.limits.TheConstants.{MAX_LINE}
use Rattle.uca_io.specs.declared.line_reader.LineFault.{LineFault}
use Rattle.uca_io.specs.declared.line_reader.Progress.{Progress}
use Rattle.uca_io.proofs.FoldLemmas.{bytes-added, bytes-fault, bytes-last, bytes-long}
use Rattle.uca_io.proofs.LineLemmas.{line_bytes}

pub line_ends : {A C : Type 0} (f : Fold A C) (end : End C) (n m : ℕ) (a after : A) (held part kept more : List ℕ) → IsOpen (held ++ part) → unless_long f (held ++ part) (f.step n a (held ++ part)) ≡ Ok after → m ≡ n → kept ≡ []
    → with_bytes f end n a (held ++ ((part ++ line_feed ∷ []) ++ more)) ≡ with_bytes f end (m + 1) after (kept ++ more)
line_ends f end n m a after held part kept more clear is same none =
    ap (with_bytes f end n a) (line_bytes held part more) ∙ bytes-added f end n a after (held ++ part) more clear is
    ∙ ap₂ (λ (k : ℕ) (xs : List ℕ). with_bytes f end (k + 1) after (xs ++ more)) (sym same) (sym none)

pub line_faulty : {A C : Type 0} (f : Fold A C) (end : End C) (n : ℕ) (a : A) (cause : C) (held part more : List ℕ) → IsOpen (held ++ part) → unless_long f (held ++ part) (f.step n a (held ++ part)) ≡ Err cause
    → with_bytes f end n a (held ++ ((part ++ line_feed ∷ []) ++ more)) ≡ fault_at n cause
line_faulty f end n a cause held part more clear is = ap (with_bytes f end n a) (line_bytes held part more) ∙ bytes-fault f end n a cause (held ++ part) more clear is

pub line_long : {A C : Type 0} (f : Fold A C) (end : End C) (n : ℕ) (a : A) (held part more : List ℕ) → IsOpen (held ++ part) → MAX_LINE < length (held ++ part)
    → with_bytes f end n a (held ++ (part ++ more)) ≡ fault_at n f.long
line_long f end n a held part more clear long = ap (with_bytes f end n a) (sym (append_assoc held part more)) ∙ bytes-long f end n a (held ++ part) more clear long

pub last_line : {A C : Type 0} (f : Fold A C) (end : End C) (n : ℕ) (a : A) (held : List ℕ) → IsOpen held → length held ≤ MAX_LINE → with_bytes f end n a (held ++ []) ≡ at_line n (with_last f end n a held)
last_line f end n a held clear short = ap (with_bytes f end n a) (append-nil held) ∙ bytes-last f end n a held clear short

-- the same where the text ends there, and there are bytes
pub last_filled : {A C : Type 0} (f : Fold A C) (n : ℕ) (a : A) (held : List ℕ) → IsOpen held → length held ≤ MAX_LINE → 0 < length held → with_bytes f ends n a (held ++ []) ≡ at_line n (f.step n a held)
last_filled f n a [] clear short some = absurd (omega arith)
last_filled f n a (b ∷ held) clear short some = last_line f ends n a (b ∷ held) clear short

-- the same where there are none
pub last_none : {A C : Type 0} (f : Fold A C) (n : ℕ) (a : A) (held : List ℕ) → IsOpen held → length held ≤ MAX_LINE → length held ≡ 0 → with_bytes f ends n a (held ++ []) ≡ Ok a
last_none f n a [] clear short none = last_line f ends n a [] clear short
last_none f n a (b ∷ held) clear short none = absurd (omega arith)

-- what holds of a fault holds of another, where one says the other
pub fault-change : {C : Type 0} (o : Option C) (Q R : C → Type 0) → ((c : C) → Q c → R c) → MatchOption o (Unit {0}) Q → MatchOption o (Unit {0}) R
fault-change None Q R change holds = holds
fault-change (Some c) Q R change holds = change c holds

moved : {A C : Type 0} (f : Fold A C) (end : End C) (p q : Progress) (a b : A) (front rest first others : List ℕ) → GoesOn f p a front q b rest → rest ≡ first ++ others → (more : List ℕ)
    → remaining f end p a (front ++ more) ≡ remaining f end q b (first ++ (others ++ more))
moved f end p q a b front rest first others goes is more = goes.same end more ∙ ap (remaining f end q b) (ap (λ (xs : List ℕ). xs ++ more) is ∙ append_assoc first others more)

-- one step more
pub GoesOn-step : {A C : Type 0} (f : Fold A C) (p q r : Progress) (a b d : A) (front rest first others : List ℕ) → GoesOn f p a front q b rest → rest ≡ first ++ others → GoesOn f q b first r d [] → GoesOn f p a front r d others
GoesOn-step f p q r a b d front rest first others goes is step = record {
  same = λ end more. moved f end p q a b front rest first others goes is more ∙ step.same end (others ++ more);
  held = step.held;
  short = step.short;
  count = omega (arith, goes.count, step.count, ap (length {A = ℕ}) is, length-append first others);
}

pub StopsAt-front : {A C K : Type 0} (f : Fold A C) (fault_of : K → Option C) (p q : Progress) (a b : A) (front rest first others : List ℕ) (fault : LineFault K) → GoesOn f p a front q b rest → rest ≡ first ++ others → StopsAt f fault_of q b first fault → StopsAt f fault_of p a front fault
StopsAt-front {A} {C} f fault_of p q a b front rest first others fault goes is stop =
    fault-change (fault_by f fault_of fault.cause) (λ c. (end : End C) (more : List ℕ) → remaining f end q b (first ++ more) ≡ fault_at fault.line c) (λ c. (end : End C) (more : List ℕ) → remaining f end p a (front ++ more) ≡ fault_at fault.line c)
    (λ c faulty end more. moved f end p q a b front rest first others goes is more ∙ faulty end (others ++ more)) stop

-- the last step
pub goes_through : {A C K B : Type 0} (f : Fold A C) (fault_of : K → Option C) (p q r : Progress) (a b d : A) (front rest : List ℕ) (result : Result B (LineFault K)) → GoesOn f p a front q b rest
    → MatchResult result (λ _. GoesOn f q b rest r d []) (StopsAt f fault_of q b rest) → MatchResult result (λ _. GoesOn f p a front r d []) (StopsAt f fault_of p a front)
goes_through f fault_of p q r a b d front rest (Ok done) goes step = GoesOn-step f p q r a b d front rest rest [] goes (sym (append-nil rest)) step
goes_through f fault_of p q r a b d front rest (Err fault) goes stop = StopsAt-front f fault_of p q a b front rest rest [] fault goes (sym (append-nil rest)) stop
