-- The output of a command, piece after piece.
use Rattle.std.proofs.Common.{◌≡◌, ℕ, ◌+◌, ◌<◌, List, [], ◌∷◌, ◌++◌, length, flat_map, chars, Result, Ok, Err, OnOk, MatchResult, refl, sym, ap, subst, ◌∙◌, arith, append_assoc, length-append}
use Rattle.uca_io.specs.WriterState.{WriterState}
use Rattle.uca_io.specs.Writer.{WritesAll, WritesFront}
use Rattle.uca_io.specs.OutputBuffer.{accepted, Accepts, FailsPartway}
use Rattle.uca_io.specs.BufferState.{BufferState}
use Rattle.uca_io.specs.declared.writer.WriteFault.{WriteFault}
use Rattle.uca_io.proofs.SendLemmas.{both_sent}
use Rattle.uca_io.proofs.BufferLemmas.{accepted-Accepts, Accepts-all, Accepts-more, Accepts-none, FailsPartway-later, FailsPartway-longer, FailsPartway-front}
use Rattle.uca_weights.specs.declared.settings.Settings.{Settings}
use Rattle.uca_model.specs.CanonicalText.{element_text}
use Rattle.uca_model.specs.CollationElements.{elements}
use Rattle.uca_model.specs.Table.{ElementTable}
use Rattle.uca_model.specs.Lines.{lines_of, line_feed}
use Rattle.uca_model.specs.Output.{hex_text}
use Rattle.uca_model.specs.SortKey.{sort_key}
use Rattle.uca_commands.specs.Commands.{WritesSome}
use Rattle.uca_commands.specs.Sending.{line_text, lines_text, StopsLine, StopsOutput}
use Rattle.uca_commands.specs.declared.faults.CliFault.{CliFault}
use Rattle.uca_commands.specs.declared.faults.CliFault.TheVariants.{Output, OutOfMemory}
use Rattle.uca_commands.specs.declared.output.LineForm.{LineForm}
use Rattle.uca_commands.specs.declared.output.LineForm.TheVariants.{Elements, Key}
use Rattle.unicode_normalization.specs.Forms.{nfd}

-- what a call does with one more piece
abbrev pub Takes : WriterState → BufferState → WriterState → BufferState → List ℕ → Result (Unit {0}) WriteFault → Type 0
Takes old before new after piece r = MatchResult r (λ _. Accepts old before new after piece) (FailsPartway old before new piece)

-- a front of the whole was accepted, and the rest is left
pub record Sends (old : WriterState) (before : BufferState) (now : WriterState) (out : BufferState) (left whole : List ℕ) : Type 0 where
  pub sent : List ℕ
  pub sends : Accepts old before now out sent
  pub complete : sent ++ left ≡ whole

pub Sends-none : (s : WriterState) (o : BufferState) (whole : List ℕ) → Sends s o s o whole whole
Sends-none s o whole = record { sent = []; sends = Accepts-none s o; complete = refl }

module _ {s0 s1 : WriterState} {o0 o1 : BufferState} {left whole : List ℕ} (sends : Sends s0 o0 s1 o1 left whole) where
  pub Sends-more : {s2 : WriterState} {o2 : BufferState} (piece rest : List ℕ) → left ≡ piece ++ rest → Accepts s1 o1 s2 o2 piece → Sends s0 o0 s2 o2 rest whole
  Sends-more {s2} {o2} piece rest is more = record {
    sent = sends.sent ++ piece;
    sends = Accepts-more s0 s1 s2 o0 o1 o2 sends.sent piece sends.sends more;
    complete = append_assoc sends.sent piece rest ∙ ap (λ l. sends.sent ++ l) (sym is) ∙ sends.complete;
  }

  pub Sends-stops : {s2 : WriterState} (piece rest : List ℕ) (f : WriteFault) → left ≡ piece ++ rest → FailsPartway s1 o1 s2 piece f → FailsPartway s0 o0 s2 whole f
  Sends-stops {s2} piece rest f is stops =
      subst (λ l. FailsPartway s0 o0 s2 l f) (append_assoc sends.sent piece rest ∙ ap (λ l. sends.sent ++ l) (sym is) ∙ sends.complete)
      (FailsPartway-longer s0 s2 o0 (sends.sent ++ piece) rest f (FailsPartway-later s0 s1 s2 o0 o1 sends.sent piece f sends.sends stops))

  pub Sends-last : (s2 : WriterState) (o2 : BufferState) (r : Result (Unit {0}) WriteFault) → Takes s1 o1 s2 o2 left r → Takes s0 o0 s2 o2 whole r
  Sends-last s2 o2 r last = subst (λ l. Takes s0 o0 s2 o2 l r) sends.complete (both_sent s0 s1 s2 o0 o1 o2 sends.sent left r sends.sends last)

  -- as many bytes were accepted as are not left
  pub Sends-size : accepted o1 + length left ≡ accepted o0 + length whole
  Sends-size = omega (arith, accepted-Accepts s0 s1 o0 o1 sends.sent sends.sends, ap length sends.complete, length-append sends.sent left)

-- the same from the start of an output
pub record Writes (old now : WriterState) (out : BufferState) (left whole : List ℕ) : Type 0 where
  pub start : BufferState
  pub waiting : start.waiting ≡ []
  pub written : start.written ≡ 0
  pub sends : Sends old start now out left whole

pub Writes-none : (s : WriterState) (o : BufferState) (whole : List ℕ) → o.waiting ≡ [] → o.written ≡ 0 → Writes s s o whole whole
Writes-none s o whole waiting written = record { start = o; waiting = waiting; written = written; sends = Sends-none s o whole }

module _ {s0 s1 : WriterState} {o1 : BufferState} {left whole : List ℕ} (writes : Writes s0 s1 o1 left whole) where
  pub Writes-more : {s2 : WriterState} {o2 : BufferState} (piece rest : List ℕ) → left ≡ piece ++ rest → Accepts s1 o1 s2 o2 piece → Writes s0 s2 o2 rest whole
  Writes-more piece rest is more = record { start = writes.start; waiting = writes.waiting; written = writes.written; sends = Sends-more writes.sends piece rest is more }

  pub Writes-stops : {s2 : WriterState} (piece rest : List ℕ) (f : WriteFault) → left ≡ piece ++ rest → FailsPartway s1 o1 s2 piece f → WritesFront s0 s2 whole f
  Writes-stops {s2} piece rest f is stops = FailsPartway-front s0 s2 writes.start whole f writes.waiting writes.written (Sends-stops writes.sends piece rest f is stops)

  -- all of it went to the buffer, and what waits is written
  pub Writes-flushed : (s2 : WriterState) (o2 : BufferState) (r : Result (Unit {0}) WriteFault) → left ≡ [] → Takes s1 o1 s2 o2 [] r → MatchResult r (λ _. o2.waiting ≡ []) (λ _. Unit {0}) → MatchResult r (λ _. WritesAll s0 s2 whole) (WritesFront s0 s2 whole)
  Writes-flushed s2 o2 (Ok x) none last empty = Accepts-all s0 s2 writes.start o2 whole writes.waiting empty (Sends-last writes.sends s2 o2 (Ok x) (subst (λ l. Accepts s1 o1 s2 o2 l) (sym none) last))
  Writes-flushed s2 o2 (Err f) none last empty = Writes-stops [] [] f none last

-- how much was accepted with one more piece
pub accepted-after : (s0 s1 : WriterState) (o0 o1 : BufferState) (piece : List ℕ) (n : ℕ) (r : Result (Unit {0}) WriteFault) → Takes s0 o0 s1 o1 piece r → accepted o0 + length piece < n → OnOk r (accepted o1 < n)
accepted-after s0 s1 o0 o1 piece n (Ok x) sends room = omega (arith, accepted-Accepts s0 s1 o0 o1 piece sends, room)
accepted-after s0 s1 o0 o1 piece n (Err f) stops room = tt

-- ---- line after line

-- the output of a line, and of the lines after it
pub lines_text-parts : (form : LineForm) (t : ElementTable) (s : Settings) (left line rest : List ℕ) → lines_of left ≡ line ∷ lines_of rest → lines_text form t s left ≡ line_text form t s line ++ lines_text form t s rest
lines_text-parts form t s left line rest parts = ap (flat_map (line_text form t s)) parts

-- a line is not empty
pub length-line_text : (form : LineForm) (t : ElementTable) (s : Settings) (line : List ℕ) → 0 < length (line_text form t s line)
length-line_text Elements t s line = omega (arith, length-append (flat_map element_text (elements t (nfd (chars line)))) (line_feed ∷ []))
length-line_text Key t s line = omega (arith, length-append (hex_text (sort_key t s (chars line))) (line_feed ∷ []))

module _ {s0 s1 : WriterState} {o1 : BufferState} {left whole : List ℕ} (writes : Writes s0 s1 o1 left whole) where
  -- the next piece was not accepted, so that not all were written
  WritesSome-left : 0 < length left → WritesSome s0 s1 whole
  WritesSome-left some =
      let sends : Accepts s0 writes.start s1 o1 writes.sends.sent = writes.sends.sends in
      let front : writes.sends.sent ≡ sends.went ++ o1.waiting = ap (λ l. l ++ writes.sends.sent) (sym writes.waiting) ∙ sends.all in
      record {
        went = sends.went;
        writes = sends.writes;
        left = o1.waiting ++ left;
        parts = sym writes.sends.complete ∙ ap (λ l. l ++ left) front ∙ append_assoc sends.went o1.waiting left;
        more = omega (arith, some, length-append o1.waiting left);
      }

  -- the output stopped at a line
  pub StopsOutput-line : (s2 : WriterState) (o2 : BufferState) (line rest : List ℕ) (fault : CliFault) → left ≡ line ++ rest → 0 < length line → StopsLine s1 o1 s2 o2 line fault → StopsOutput s0 s2 whole fault
  StopsOutput-line s2 o2 line rest (Output f) is some stops = Writes-stops writes line rest f is stops
  StopsOutput-line s2 o2 line rest OutOfMemory is some stops = subst (λ state. WritesSome s0 state whole) (sym stops.0) (WritesSome-left (omega (arith, some, ap length is, length-append line rest)))
  StopsOutput-line s2 o2 line rest _ is some stops = absurd stops
