-- Lines, and the bytes around their ends.
use Rattle.std.proofs.Common.{◌≡◌, ◌≢◌, ℕ, suc, ◌+◌, ◌-◌, ◌<◌, ◌≤◌, ◌==◌, true, false, List, [], ◌∷◌, ◌++◌, length, take, drop, get_or, slice_index, refl, sym, ap, subst, ◌∙◌, arith, append_assoc, eq-eqb, ne_eqb, Bool}
use Rattle.std.proofs.lemmas.Bool.{cond-true, cond-false}
use Rattle.std.proofs.lemmas.List.{length-take, get_or-take}
use Rattle.std.proofs.lemmas.List.Sums.{fails_before_first, passes_at_first, split_at_first}
use Rattle.std.proofs.lemmas.Bool.Decides.{nat_tests}
use Rattle.std.proofs.lemmas.List.Splits.{length-slice_split, slice_split-cons_no}
use Rattle.std.proofs.Math.Seq.{take-append-add}
use Rattle.std.specs.List.{All, position_or_len, slice_split, onto_first}
use Rattle.uca_io.specs.Lines.{line_feed, carriage_return, is_line_feed, without_return, IsOpen}

-- what the last byte of a longer line is
last_of_more : (b c : ℕ) (line : List ℕ) → slice_index (b ∷ c ∷ line) (length (b ∷ c ∷ line) - 1) ≡ slice_index (c ∷ line) (length (c ∷ line) - 1)
last_of_more b c line = let e : suc (suc (length line)) - 1 ≡ suc (suc (length line) - 1) = omega arith in ap (slice_index (b ∷ c ∷ line)) e

pub without_return-strips : (line : List ℕ) → 0 < length line → slice_index line (length line - 1) ≡ carriage_return → without_return line ≡ take (length line - 1) line
without_return-strips [] some same = absurd (omega arith)
without_return-strips (b ∷ []) some same = cond-true _ _ _ (eq-eqb b carriage_return same)
without_return-strips (b ∷ c ∷ line) some same =
    let e : suc (suc (length line)) - 1 ≡ suc (suc (length line) - 1) = omega arith in
    ap (λ l. b ∷ l) (without_return-strips (c ∷ line) (omega arith) (sym (last_of_more b c line) ∙ same)) ∙ sym (ap (λ n. take n (b ∷ c ∷ line)) e)

pub without_return-keeps : (line : List ℕ) → 0 < length line → slice_index line (length line - 1) ≢ carriage_return → without_return line ≡ line
without_return-keeps [] some other = refl
without_return-keeps (b ∷ []) some other = cond-false _ _ _ (ne_eqb b carriage_return other)
without_return-keeps (b ∷ c ∷ line) some other = ap (λ l. b ∷ l) (without_return-keeps (c ∷ line) (omega arith) (λ same. other (last_of_more b c line ∙ same)))

feed_at : (b : ℕ) → (b == line_feed) ≡ true → b ≡ line_feed
feed_at b is = grind (arith, nat_tests)

-- a text with LF is its first line, LF, and what follows
pub first_feed : (xs : List ℕ) (n : ℕ) → n ≡ position_or_len is_line_feed xs → n < length xs → xs ≡ take n xs ++ line_feed ∷ drop (n + 1) xs
first_feed xs n at low =
    let stop : get_or xs (position_or_len is_line_feed xs) 0 ≡ line_feed = feed_at _ (passes_at_first is_line_feed xs 0 (omega arith)) in
    subst (λ m. xs ≡ take m xs ++ line_feed ∷ drop (m + 1) xs) (sym at) (subst (λ b. xs ≡ take (position_or_len is_line_feed xs) xs ++ b ∷ drop (position_or_len is_line_feed xs + 1) xs) stop (split_at_first is_line_feed xs 0 (omega arith)))

-- no LF comes before the first one
pub open_front : (xs : List ℕ) (n : ℕ) → n ≡ position_or_len is_line_feed xs → n ≤ length xs → IsOpen (take n xs)
open_front xs n at within = record {
  line = λ k d low.
      let below : k < n = omega (arith, length-take n xs) in
      ap is_line_feed (get_or-take n xs k d below) ∙ fails_before_first is_line_feed xs k d (omega arith);
}

pub open_nil : (xs : List ℕ) → xs ≡ [] → IsOpen xs
open_nil xs is = subst IsOpen (sym is) (record { line = λ k d low. absurd (omega arith) })

-- a line in two pieces, with its LF
pub line_bytes : (held part more : List ℕ) → held ++ ((part ++ line_feed ∷ []) ++ more) ≡ (held ++ part) ++ line_feed ∷ more
line_bytes held part more = simp append_assoc

-- a line with its LF, and what follows it
pub line_and_rest : (rest part others : List ℕ) → rest ≡ part ++ line_feed ∷ others → rest ≡ (part ++ line_feed ∷ []) ++ others
line_and_rest rest part others is = is ∙ sym (append_assoc part (line_feed ∷ []) others)

-- what is cut has some part
pub some_parts : (p : ℕ → Bool) (xs : List ℕ) → 0 < length (slice_split p xs)
some_parts p xs = omega (arith, length-slice_split p xs)

-- the first part of a text, which is at least so long
pub record FirstPart (text : List ℕ) (n : ℕ) : Type 0 where
  pub part : List ℕ
  pub parts : List (List ℕ)
  pub is : slice_split is_line_feed text ≡ part ∷ parts
  pub long : n ≤ length part

some_part : (text : List ℕ) (split : List (List ℕ)) → slice_split is_line_feed text ≡ split → 0 < length split → FirstPart text 0
some_part text [] is some = absurd (omega arith)
some_part text (part ∷ parts) is some = record { part = part; parts = parts; is = is; long = omega arith }

pub first_part : (line more : List ℕ) → All (λ b. is_line_feed b ≡ false) line → FirstPart (line ++ more) (length line)
first_part [] more clear = some_part more (slice_split is_line_feed more) refl (some_parts is_line_feed more)
first_part (b ∷ line) more clear =
    let later : FirstPart (line ++ more) (length line) = first_part line more (λ k d low. clear (suc k) d (omega arith)) in
    let other : is_line_feed b ≡ false = clear 0 0 (omega arith) in
    record {
      part = b ∷ later.part;
      parts = later.parts;
      is = slice_split-cons_no is_line_feed b (line ++ more) other ∙ ap (onto_first b) later.is;
      long = let h : length line ≤ length later.part = later.long in omega arith;
    }

-- the front of a text that fits after some bytes
pub take-room : (bytes more : List ℕ) (n room : ℕ) → length bytes + room ≡ n → take n (bytes ++ more) ≡ bytes ++ take room more
take-room bytes more n room is = subst (λ (m : ℕ). take m (bytes ++ more) ≡ bytes ++ take room more) is (take-append-add bytes more room)
