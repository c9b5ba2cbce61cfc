-- Where the code points are after one was moved forward.
use Rattle.uca_table.proofs.Common.{◌≡◌, ℕ, ◌+◌, ◌-◌, ◌≤◌, ◌<◌, List, [], ◌∷◌, ◌++◌, length, take, drop, get_or, sym, ap, ◌∙◌, arith, append-nil, length-take-le, length-drop, length-append, length_push, take_at, drop_at, drop-drop, take-append-drop, take_more, drop_all, get_or-drop, brought_forward, passed_over, common_steps}
use borrow.Rule.Slice.PartMut.{put_mid}

module _ (text : List ℕ) (to from : ℕ) (ordered : to ≤ from) (within : from < length text) where
  pub brought-front : take (to + 1) (brought_forward text to from) ≡ take to text ++ get_or text from 0 ∷ []
  brought-front = grind (arith, common_steps, take_at, length_push, length-take-le)

  brought-after : drop (to + 1) (brought_forward text to from) ≡ passed_over text to from ++ drop (from + 1) text
  brought-after = grind (arith, common_steps, drop_at, length_push, length-take-le)

  long_between : length (passed_over text to from) ≡ from - to
  long_between = grind (arith, common_steps, length-drop, length-take-le)

  pub brought-between : passed_over (brought_forward text to from) (to + 1) (from + 1) ≡ passed_over text to from
  brought-between = grind (arith, common_steps, brought-after, take_at, long_between)

  pub brought-rest : drop (from + 1) (brought_forward text to from) ≡ drop (from + 1) text
  brought-rest =
      let same : from + 1 ≡ (to + 1) + (from - to) = omega arith in
      ap (λ n. drop n (brought_forward text to from)) same ∙ sym (drop-drop (from - to) (to + 1) (brought_forward text to from))
      ∙ ap (drop (from - to)) brought-after ∙ drop_at (passed_over text to from) (drop (from + 1) text) (from - to) long_between

-- one more code point was passed over
pub passed_over-more : (text : List ℕ) (end at : ℕ) → end ≤ at → at < length text → passed_over text end (at + 1) ≡ passed_over text end at ++ get_or text at 0 ∷ []
passed_over-more text end at upto within =
    let size : length (drop end text) ≡ length text - end = length-drop end text in
    let next : at + 1 - end ≡ (at - end) + 1 = omega arith in
    let place : end + (at - end) ≡ at = omega arith in
    ap (λ n. take n (drop end text)) next ∙ take_more (drop end text) (at - end) 0 (omega arith)
    ∙ ap (λ c. passed_over text end at ++ c ∷ []) (get_or-drop end text (at - end) 0 ∙ ap (λ n. get_or text n 0) place)

-- what was passed over and what comes then
pub passed_over-rest : (text : List ℕ) (end at : ℕ) → end ≤ at → passed_over text end at ++ drop at text ≡ drop end text
passed_over-rest text end at upto =
    let place : end + (at - end) ≡ at = omega arith in
    ap (λ n. passed_over text end at ++ drop n text) (sym place) ∙ ap (λ xs. passed_over text end at ++ xs) (sym (drop-drop (at - end) end text)) ∙ take-append-drop (at - end) (drop end text)

-- the rest of a text was rewritten from a place on
pub rewritten-rest : (at : ℕ) (text new : List ℕ) → at ≤ length text → drop at (put_mid at (length text - at) text new) ≡ new
rewritten-rest at text new within = grind (arith, common_steps, drop_all, length-drop, drop_at, length-take-le, append-nil)

pub rewritten-length : (at : ℕ) (text new : List ℕ) → at ≤ length text → length new ≡ length text - at → length (put_mid at (length text - at) text new) ≡ length text
rewritten-length at text new within size = grind (arith, common_steps, drop_all, length-drop, length-take-le, length-append, append-nil)
