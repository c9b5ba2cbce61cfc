-- The first line of an input that has a fault.
use Rattle.std.proofs.Common.{◌≡◌, ℕ, ◌+◌, ◌<◌, ◌==◌, Bool, true, false, List, [], ◌∷◌, ◌++◌, length, map, All, sym, ap, subst, ◌∙◌, arith, append_assoc, append-nil, length-append}
use Rattle.std.specs.Prelude.{if◌then◌else◌}
use Rattle.std.proofs.lemmas.List.Elements.{All-push}
use Rattle.uca_model.specs.Lines.{IsTextLine, LineFault, HasFault, IsFirstFault, line_feed, lines_of, onto, split_lines, without_return, not_utf8, long_run}
use Rattle.uca_window.specs.declared.fault.TextFault.{TextFault}
use Rattle.uca_window.specs.declared.fault.TextFault.TheVariants as text
use Rattle.uca_window.specs.TextFaults.{IsFault}
use Rattle.uca_commands.specs.Input.{fault_at, HasInputFault, IsOneLine}

-- the first lines, as many as this number, are texts, and these are left
pub record HasFineFront (lines left : List (List ℕ)) (number : ℕ) : Type 0 where
  pub front : List (List ℕ)
  pub parts : lines ≡ front ++ left
  pub fine : All IsTextLine front
  pub counted : number ≡ length front

-- one more line is a text
pub HasFineFront-more : (lines left rest : List (List ℕ)) (line : List ℕ) (n : ℕ) → HasFineFront lines left n → left ≡ line ∷ rest → IsTextLine line → HasFineFront lines rest (n + 1)
HasFineFront-more lines left rest line n h first fine = record {
  front = h.front ++ line ∷ [];
  parts = h.parts ∙ ap (λ ls. h.front ++ ls) first ∙ sym (append_assoc h.front (line ∷ []) rest);
  fine = All-push IsTextLine h.front line h.fine fine;
  counted = ap (λ k. k + 1) h.counted ∙ sym (length-append h.front (line ∷ []));
}

first_fault : (lines left rest : List (List ℕ)) (line : List ℕ) (n : ℕ) (fault : LineFault) → HasFineFront lines left n → left ≡ line ∷ rest → HasFault line fault → IsFirstFault lines (n + 1) fault
first_fault lines left rest line n fault h first faulty = record {
  front = h.front;
  line = line;
  after = rest;
  parts = h.parts ∙ ap (λ ls. h.front ++ ls) first;
  fine = h.fine;
  counted = ap (λ k. k + 1) h.counted;
  faulty = faulty;
}

-- the next line is the first with a fault
pub HasInputFault-next : (fault : TextFault) (lines left rest : List (List ℕ)) (line : List ℕ) (n : ℕ) → HasFineFront lines left n → left ≡ line ∷ rest → IsFault line fault → HasInputFault lines (fault_at (n + 1) fault)
HasInputFault-next (text.NotUtf8 at) lines left rest line n h first faulty = first_fault lines left rest line n (not_utf8 at) h first faulty
HasInputFault-next (text.LongRun at) lines left rest line n h first faulty = first_fault lines left rest line n (long_run at) h first faulty

-- no line is left
pub HasFineFront-end : (bytes left : List ℕ) (n : ℕ) → HasFineFront (lines_of bytes) (lines_of left) n → length left ≡ 0 → All IsTextLine (lines_of bytes)
HasFineFront-end bytes [] n h none = subst (All IsTextLine) (sym (h.parts ∙ append-nil h.front)) h.fine
HasFineFront-end bytes (b ∷ left) n h none = absurd (omega arith)

-- bytes have a line
some_lines : (bytes : List ℕ) → 0 < length bytes → 0 < length (lines_of bytes)
some_lines [] some = absurd (omega arith)
some_lines (b ∷ bytes) some = go (b == line_feed) (split_lines bytes)
  where
    go : (ends : Bool) (lines : List (List ℕ)) → 0 < length (map without_return (if ends then [] ∷ lines else onto b lines))
    go true lines = omega arith
    go false [] = omega arith
    go false (line ∷ lines) = omega arith

-- bytes after the first line are another one
pub other_lines : (bytes line rest : List ℕ) → lines_of bytes ≡ line ∷ lines_of rest → 0 < length rest → ¬ IsOneLine bytes
other_lines bytes line rest parts more one =
    let all : length (lines_of bytes) ≡ length (line ∷ lines_of rest) = ap length parts in
    omega (arith, all, one, some_lines rest more)
