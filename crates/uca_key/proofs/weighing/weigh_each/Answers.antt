use Rattle.uca_key.proofs.Common.{◌≡◌, ◌+◌, ◌<◌, ◌++◌, ℕ, List, length, take, drop, get_or, set, sym, ap, ◌∙◌, arith, append_assoc, drop-drop, drop-set-lt, drop_all, take_all, drop_more, length-set, map-append, take_more_set, Element, Variable, weights, WeigherState, after_element, weighted_from, all_own, own_weights, common_steps}
use Rattle.uca_key.proofs.weighing.weigh_each.Goals as goal

-- the elements after the next one
after-next : (n : ℕ) (now old : List Element) → drop n now ≡ drop n old → drop (n + 1) now ≡ drop (n + 1) old
after-next n now old rest = sym (drop-drop 1 n now) ∙ ap (drop 1) rest ∙ drop-drop 1 n old

-- one element more
one-more : (v : Variable) (seen after : WeigherState) (n : ℕ) (now old es : List Element) (x d : Element) → n < length now → drop n now ≡ drop n old → own_weights v x ≡ weights seen.weighting seen.after (get_or now n d) → after ≡ record seen { after = after_element seen.after (get_or now n d) }
    → all_own v (take n now) ++ weighted_from seen (drop n old ++ es) ≡ all_own v (take (n + 1) (set now n x)) ++ weighted_from after (drop (n + 1) old ++ es)
one-more v seen after n now old es x d within rest own moved = grind (arith, common_steps, drop_more, after-next, append_assoc, map-append, take_more_set)

pub loop-n-preserved : goal.loop-n-preserved
loop-n-preserved c = grind (arith, common_steps, length-set, drop-set-lt, after-next, one-more)

pub returns-clause-weights : goal.returns-clause-weights
returns-clause-weights c = grind (arith, common_steps, take_all, drop_all)
