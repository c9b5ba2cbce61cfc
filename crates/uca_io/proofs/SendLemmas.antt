-- A text that is written line by line.
use Rattle.std.proofs.Common.{◌≡◌, List, ℕ, [], ◌++◌, Result, Ok, Err, MatchResult, subst, ◌∙◌, append_assoc, append-nil}
use Rattle.uca_io.specs.BufferState.{BufferState}
use Rattle.uca_io.specs.declared.writer.WriteFault.{WriteFault}
use Rattle.uca_io.specs.WriterState.{WriterState}
use Rattle.uca_io.specs.Writer.{WritesFront}
use Rattle.uca_io.specs.OutputBuffer.{Accepts, FailsPartway}
use Rattle.uca_io.proofs.BufferLemmas.{Accepts-more, FailsPartway-later, FailsPartway-longer, FailsPartway-front}

-- one more line was written
pub sent_more : (s0 s1 s2 : WriterState) (o0 o1 o2 : BufferState) (sent line rest whole piece : List ℕ) → Accepts s0 o0 s1 o1 sent → sent ++ (line ++ rest) ≡ whole → piece ≡ line → Accepts s1 o1 s2 o2 piece → Accepts s0 o0 s2 o2 (sent ++ line) × ((sent ++ line) ++ rest ≡ whole)
sent_more s0 s1 s2 o0 o1 o2 sent line rest whole piece before complete is sends =
    (Accepts-more s0 s1 s2 o0 o1 o2 sent line before (subst (λ (l : List ℕ). Accepts s1 o1 s2 o2 l) is sends), append_assoc sent line rest ∙ complete)

-- it stopped at a line
pub stopped_there : (s0 s1 s2 : WriterState) (o0 o1 : BufferState) (sent line rest whole piece : List ℕ) (f : WriteFault) → Accepts s0 o0 s1 o1 sent → sent ++ (line ++ rest) ≡ whole → piece ≡ line → FailsPartway s1 o1 s2 piece f → FailsPartway s0 o0 s2 whole f
stopped_there s0 s1 s2 o0 o1 sent line rest whole piece f before complete is stops =
    let here : FailsPartway s1 o1 s2 line f = subst (λ (l : List ℕ). FailsPartway s1 o1 s2 l f) is stops in
    subst (λ (l : List ℕ). FailsPartway s0 o0 s2 l f) (append_assoc sent line rest ∙ complete)
    (FailsPartway-longer s0 s2 o0 (sent ++ line) rest f (FailsPartway-later s0 s1 s2 o0 o1 sent line f before here))

-- one text after another
pub both_sent : (s0 s1 s2 : WriterState) (o0 o1 o2 : BufferState) (first second : List ℕ) (r : Result (Unit {0}) WriteFault) → Accepts s0 o0 s1 o1 first → MatchResult r (λ _. Accepts s1 o1 s2 o2 second) (λ f. FailsPartway s1 o1 s2 second f)
    → MatchResult r (λ _. Accepts s0 o0 s2 o2 (first ++ second)) (λ f. FailsPartway s0 o0 s2 (first ++ second) f)
both_sent s0 s1 s2 o0 o1 o2 first second (Ok x) before sends = Accepts-more s0 s1 s2 o0 o1 o2 first second before sends
both_sent s0 s1 s2 o0 o1 o2 first second (Err f) before stops = FailsPartway-later s0 s1 s2 o0 o1 first second f before stops

-- what waited last was not all written
pub stopped_last : (s0 s1 s2 : WriterState) (o0 o1 : BufferState) (text : List ℕ) (f : WriteFault) → o0.waiting ≡ [] → o0.written ≡ 0 → Accepts s0 o0 s1 o1 text → FailsPartway s1 o1 s2 [] f → WritesFront s0 s2 text f
stopped_last s0 s1 s2 o0 o1 text f none nothing sends stops =
    let whole : FailsPartway s0 o0 s2 text f = subst (λ (l : List ℕ). FailsPartway s0 o0 s2 l f) (append-nil text) (FailsPartway-later s0 s1 s2 o0 o1 text [] f sends stops) in
    FailsPartway-front s0 s2 o0 text f none nothing whole
