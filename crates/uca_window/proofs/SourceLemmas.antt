-- Lemmas on a source over a text: one step of the iterator over its characters.
use Rattle.std.proofs.Math.Seq.{take-append_seam, drop-append_seam}
use Rattle.std.proofs.Common.{◌<◌, ◌≤◌, ◌++◌, take, suc, encode_utf8, length-append, append_assoc, ◌≡◌, ℕ, ◌+◌, ◌-◌, List, [], ◌∷◌, Option, Some, None, length, drop, chars, IsUtf8, MatchOption, refl, sym, ap, subst, ◌∙◌, arith}
use Rattle.std.proofs.lemmas.List.{nil_from_length, drop-drop, take-append-drop, length-take, length-drop}
use Rattle.std.specs.Str.Iter.{chars_steps_back}
use Rattle.std.specs.Str.{IsCharBoundary}
use Rattle.std.proofs.lemmas.Str.{chars-append, IsCharBoundary-from_take, IsUtf8-drop}
use Rattle.std.specs.Str.Iter.{chars_rest, chars_steps}
use Rattle.std.specs.declared.str.Chars.{Chars}
use Rattle.std.proofs.lemmas.Str.{chars_past_char, chars-nil, IsUtf8-past_char}
use Rattle.uca_model.specs.Source.{GivesNext}
use Rattle.uca_io.specs.Counts.{one_more}
use Rattle.uca_window.specs.PassageSource.{state_at, Follows, StandsIn}
use Rattle.std.proofs.lemmas.Grind.{common_steps}

-- what is left after the first of what was left follows too
follows-after : (text left front rest : List ℕ) → Follows text left → left ≡ front ++ rest → Follows text rest
follows-after text left front rest h e =
    let size : length left ≡ length front + length rest = ap length e ∙ length-append front rest in
    let further : length text - length rest ≡ (length text - length left) + length front = omega (arith, h.within) in
    record {
      within = omega (arith, h.within);
      follows =
          ap (λ n. drop n text) further ∙ sym (drop-drop (length front) (length text - length left) text)
          ∙ ap (drop (length front)) (h.follows ∙ e) ∙ drop-append_seam front rest;
    }

-- the iterator after a call
pub stands_next : (text : List ℕ) (s t : Chars) (given : Option ℕ) → StandsIn text (chars_rest s) → chars_steps s given t → StandsIn text (chars_rest t)
stands_next text s t None h step = subst (λ u. StandsIn text (chars_rest u)) (sym step.0.1) h
stands_next text s t (Some c) h step =
    let bytes = follows-after text (chars_rest s) (encode_utf8 c) (chars_rest t) (record { within = h.short; follows = h.bytes }) step.0 in
    record {
      utf8 = IsUtf8-past_char _ _ c h.utf8 step.0;
      short = bytes.within;
      bytes = bytes.follows;
      follows = follows-after (chars text) (chars (chars_rest s)) (c ∷ []) (chars (chars_rest t)) h.follows (chars_past_char _ _ c h.utf8 step.0);
    }

-- what the source states of the call
value-next : (text : List ℕ) (s t : Chars) (given : Option ℕ) → StandsIn text (chars_rest s) → chars_steps s given t
    → MatchOption given ((drop (length (chars text) - length (chars (chars_rest s))) (chars text) ≡ []) × (length (chars text) - length (chars (chars_rest t)) ≡ length (chars text) - length (chars (chars_rest s))))
    (λ c. (drop (length (chars text) - length (chars (chars_rest s))) (chars text) ≡ c ∷ drop (length (chars text) - length (chars (chars_rest t))) (chars text)) × (length (chars text) - length (chars (chars_rest t)) ≡ (length (chars text) - length (chars (chars_rest s))) + 1))
value-next text s t None h step =
    (h.follows.follows ∙ ap chars (nil_from_length _ step.0.0) ∙ chars-nil, ap (λ u. length (chars text) - length (chars (chars_rest u))) step.0.1)
value-next text s t (Some c) h step =
    let is : chars (chars_rest s) ≡ c ∷ chars (chars_rest t) = chars_past_char _ _ c h.utf8 step.0 in
    (h.follows.follows ∙ is ∙ ap (λ l. c ∷ l) (sym (stands_next text s t (Some c) h step).follows.follows), omega (arith, h.follows.within, ap length is))

-- a call of the source, of which the iterator gave the next character
pub gives_next : (text : List ℕ) (s t : Chars) (marked : List ℕ) (given : Option ℕ) (reads rewinds count : ℕ) → StandsIn text (chars_rest s) → chars_steps s given t → count ≡ one_more reads
    → GivesNext (state_at (chars text) (chars (chars_rest s)) marked reads rewinds) given (state_at (chars text) (chars (chars_rest t)) marked count rewinds)
gives_next text s t marked given reads rewinds count h step counts =
    record { text = refl; value = value-next text s t given h step; mark = refl; reads = counts; rewinds = refl }

-- ---- one character back

-- what is left after the front of a text follows in it
follows-bytes : (text front left : List ℕ) → text ≡ front ++ left → IsUtf8 front → Follows (chars text) (chars left)
follows-bytes text front left e utf8 = grind (arith, common_steps, chars-append, length-append, drop-append_seam)

-- an iterator over the bytes before what is left went one character back, to `front`
pub record StepsBack (text rest front : List ℕ) : Type 0 where
  pub within : length front ≤ length text
  pub first : take (length front) text ≡ front
  pub one_more : IsUtf8 (drop (length front) text) → length (chars (drop (length front) text)) ≡ length (chars rest) + 1

pub steps_back : (text rest : List ℕ) (s t : Chars) (given : Option ℕ) → StandsIn text rest → length (chars rest) < length (chars text) → chars_rest s ≡ take (length text - length rest) text → chars_steps_back s given t
    → StepsBack text rest (chars_rest t)
steps_back text rest s t None stands some e h = grind (arith, common_steps, length-take)
steps_back text rest s t (Some c) stands some e h =
    let front = chars_rest t in
    let whole : text ≡ front ++ (encode_utf8 c ++ rest) =
    sym (take-append-drop (length text - length rest) text) ∙ ap (λ l. l ++ drop (length text - length rest) text) (sym e ∙ h) ∙ ap (λ l. (front ++ encode_utf8 c) ++ l) stands.bytes ∙ append_assoc front (encode_utf8 c) rest in
    let back : drop (length front) text ≡ encode_utf8 c ++ rest = ap (drop (length front)) whole ∙ drop-append_seam front (encode_utf8 c ++ rest) in
    record {
      within = omega (arith, ap length whole ∙ length-append front (encode_utf8 c ++ rest));
      first = ap (take (length front)) whole ∙ take-append_seam front (encode_utf8 c ++ rest);
      one_more = λ utf8. ap length (chars_past_char (drop (length front) text) rest c utf8 back) ∙ plus_one (length (chars rest));
    }
  where
    plus_one : (n : ℕ) → suc n ≡ n + 1
    plus_one n = omega arith

-- what is left from there on
pub stands_back : (text rest front : List ℕ) → StepsBack text rest front → IsUtf8 front → IsUtf8 (drop (length front) text) → StandsIn text (drop (length front) text)
stands_back text rest front h utf8 back =
    let size : length (drop (length front) text) ≡ length text - length front = length-drop (length front) text in
    let at : length text - length (drop (length front) text) ≡ length front = omega (arith, size, h.within) in
    record {
      utf8 = back;
      short = omega (arith, size);
      bytes = ap (λ n. drop n text) at;
      follows = follows-bytes text front (drop (length front) text) (sym (take-append-drop (length front) text) ∙ ap (λ l. l ++ drop (length front) text) h.first) utf8;
    }

-- a cut one character earlier
pub record IsCutBack (text rest front : List ℕ) : Type 0 where
  pub boundary : IsCharBoundary text (length front)
  pub stands : StandsIn text (drop (length front) text)
  pub one_more : length (chars (drop (length front) text)) ≡ length (chars rest) + 1

pub cut_back : (text rest : List ℕ) (s t : Chars) (given : Option ℕ) (front : List ℕ) → StandsIn text rest → length (chars rest) < length (chars text) → chars_rest s ≡ take (length text - length rest) text → chars_steps_back s given t
    → front ≡ chars_rest t → IsUtf8 text → IsUtf8 front → IsCutBack text rest front
cut_back text rest s t given front stands some e h is utf8 before =
    let back : StepsBack text rest front = subst (StepsBack text rest) (sym is) (steps_back text rest s t given stands some e h) in
    let boundary = IsCharBoundary-from_take text (length front) utf8 back.within (subst IsUtf8 (sym back.first) before) in
    let left = IsUtf8-drop text (length front) utf8 boundary in
    record { boundary = boundary; stands = stands_back text rest front back before left; one_more = back.one_more left }
