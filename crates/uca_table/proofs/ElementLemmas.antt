-- The elements of a text match after match, where each match was put in order within the text.
use Rattle.uca_table.proofs.Common.{◌≡◌, ℕ, ◌+◌, ◌-◌, ◌≤◌, ◌<◌, List, ◌++◌, length, take, drop, ap₂, arith, append_assoc, append-nil, drop-drop, take_rest, drop_all, length-drop, Element, ElementTable, is_key, step, elements, elements_or_implicit, common_steps}
use borrow.Rule.Slice.PartMut.{put_mid}
use Rattle.uca_model.proofs.RewritingLemmas.{elements_parts, elements_empty}
use Rattle.uca_table.proofs.MovedForward.{rewritten-rest, rewritten-length}

-- the match that was put to the front of what is left
pub match_again : (text new : List ℕ) (at n : ℕ) → at < length text → take (at + n - at) (drop at (put_mid at (length text - at) text new)) ≡ take n new
match_again text new at n within = let few : at + n - at ≡ n = omega arith in ap₂ take few (rewritten-rest at text new (omega arith))

-- one match further
pub elements-further : (t : ElementTable) (text new : List ℕ) (at n : ℕ) (out whole : List Element) → at < length text → out ++ elements t (drop at text) ≡ whole
    → (step (is_key t) (take (length text - at) (drop at text))).matched.code_points ≡ take n new → (step (is_key t) (take (length text - at) (drop at text))).rest ≡ drop n new
    → (out ++ elements_or_implicit t (take (at + n - at) (drop at (put_mid at (length text - at) text new)))) ++ elements t (drop (at + n) (put_mid at (length text - at) text new)) ≡ whole
elements-further t text new at n out whole within same matched rest = grind (arith, common_steps, take_rest, length-drop, rewritten-rest, match_again, drop-drop, elements_parts, append_assoc)

-- nothing is left
pub elements-done : (t : ElementTable) (text : List ℕ) (at : ℕ) (out whole : List Element) → length text ≤ at → out ++ elements t (drop at text) ≡ whole → out ≡ whole
elements-done t text at out whole past same = grind (arith, common_steps, drop_all, append-nil, elements_empty)

pub ruleset matched = (common_steps, take_rest, length-drop, rewritten-length, elements-further)
