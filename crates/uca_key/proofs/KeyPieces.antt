-- A key that is written piece by piece.
use Rattle.uca_key.proofs.Common.{◌≡◌, ℕ, zero, suc, ◌+◌, ◌-◌, ◌<◌, ◌≤◌, List, [], ◌∷◌, ◌++◌, length, Option, Some, None, refl, sym, ap, subst, ◌∙◌, arith, append_assoc, append-nil, length-append, key_from, bytes_at, common_steps, given_none, levels-within, sort_key-levels}
use Rattle.uca_io.specs.BufferState.{BufferState}
use Rattle.uca_io.specs.declared.writer.WriteFault.{WriteFault}
use Rattle.uca_io.specs.WriterState.{WriterState}
use Rattle.uca_io.specs.OutputBuffer.{accepted, Accepts, FailsPartway}
use Rattle.uca_io.proofs.SendLemmas.{stopped_last}
use Rattle.uca_io.proofs.BufferLemmas.{Accepts-none, Accepts-more, accepted-Accepts, FailsPartway-later, FailsPartway-longer}
use Rattle.uca_key.proofs.KeySize.{length-key_few, length-sort_key}
use Rattle.uca_key.proofs.PlacingLemmas.{IsPutting-ends, IsPutting-start}

-- these bytes were written, and the others of a piece are left
pub record IsSending (s0 : WriterState) (o0 : BufferState) (s1 : WriterState) (o1 : BufferState) (whole left : List ℕ) : Type 0 where
  pub sent : List ℕ
  pub sends : Accepts s0 o0 s1 o1 sent
  pub parts : sent ++ left ≡ whole

pub IsSending-start : (s : WriterState) (o : BufferState) (whole left : List ℕ) → left ≡ whole → IsSending s o s o whole left
IsSending-start s o whole left same = record { sent = []; sends = Accepts-none s o; parts = same }

module _ (s0 s1 : WriterState) (o0 o1 : BufferState) (whole left : List ℕ) (h : IsSending s0 o0 s1 o1 whole left) where
  pub IsSending-room : (piece later : List ℕ) (limit : ℕ) → left ≡ piece ++ later → accepted o0 + length whole < limit → accepted o1 + length piece < limit
  IsSending-room piece later limit split room =
      omega (arith, accepted-Accepts s0 s1 o0 o1 h.sent h.sends, ap length h.parts, length-append h.sent left, ap length split, length-append piece later)

  pub IsSending-more : (s2 : WriterState) (o2 : BufferState) (piece later : List ℕ) → left ≡ piece ++ later → Accepts s1 o1 s2 o2 piece → IsSending s0 o0 s2 o2 whole later
  IsSending-more s2 o2 piece later split sends = record {
    sent = h.sent ++ piece;
    sends = Accepts-more s0 s1 s2 o0 o1 o2 h.sent piece h.sends sends;
    parts = append_assoc h.sent piece later ∙ ap (λ l. h.sent ++ l) (sym split) ∙ h.parts;
  }

  pub IsSending-stops : (s2 : WriterState) (piece later : List ℕ) (f : WriteFault) → left ≡ piece ++ later → FailsPartway s1 o1 s2 piece f → FailsPartway s0 o0 s2 whole f
  IsSending-stops s2 piece later f split stops =
      subst (λ (l : List ℕ). FailsPartway s0 o0 s2 l f) (append_assoc h.sent piece later ∙ ap (λ l. h.sent ++ l) (sym split) ∙ h.parts)
      (FailsPartway-longer s0 s2 o0 (h.sent ++ piece) later f (FailsPartway-later s0 s1 s2 o0 o1 h.sent piece f h.sends stops))

  pub IsSending-ends : left ≡ [] → Accepts s0 o0 s1 o1 whole
  IsSending-ends none = grind (arith, common_steps, append-nil)

-- what follows a level in a key
abbrev pub tail_of : ℕ → ℕ → (ℕ → List ℕ) → List ℕ
tail_of zero level lists = []
tail_of (suc n) level lists = 0 ∷ 0 ∷ key_from n (level + 1) lists

pub key_from-split : (n level : ℕ) (lists : ℕ → List ℕ) → key_from n level lists ≡ bytes_at level (lists level) ++ tail_of n level lists
key_from-split zero level lists = sym (append-nil (bytes_at level (lists level)))
key_from-split (suc n) level lists = refl

-- nothing follows the last level
pub tail-none : (top at : ℕ) (lists : ℕ → List ℕ) → top ≤ at → tail_of (top - at) at lists ≡ []
tail-none top at lists last = grind (arith, common_steps)

-- a separator, the next level and those after it follow another one
pub tail-later : (top at : ℕ) (lists : ℕ → List ℕ) → at < top → tail_of (top - at) at lists ≡ (0 ∷ 0 ∷ []) ++ (bytes_at (at + 1) (lists (at + 1)) ++ tail_of (top - (at + 1)) (at + 1) lists)
tail-later top at lists more = grind (arith, common_steps, key_from-split)

pub none_from : {A : Type 0} (o : Option A) → ((x : A) → o ≡ Some x → ⊥) → o ≡ None
none_from None other = refl
none_from (Some x) other = absurd (other x refl)

-- what the functions that put and send keys need
pub ruleset key_steps = (common_steps, levels-within, sort_key-levels, key_from-split, given_none, none_from, IsPutting-start, IsPutting-ends, IsSending-start, IsSending-ends, length-key_few, length-sort_key, stopped_last)
