use Rattle.std.proofs.Common.{◌<◌, ◌++◌, length, subst, sym, ap, ◌∙◌, arith, append-nil}
use Rattle.std.proofs.lemmas.List.{drop_all}
use Rattle.std.specs.FinSet.{contains}
use Rattle.uca_match.specs.Keys.{key_set}
use Rattle.uca_tailor.proofs.RenumberedLemmas.{matched_some, elements_by, elements_by-keys, some_matches}
use Rattle.uca_tailor.proofs.renumbered.elements_under.Goals as goal

pub push_match-requires : goal.push_match-requires
push_match-requires c =
    let ms = c.deref-matched-items.result.now in
    let some = matched_some ms (contains (key_set c.args.t.now)) c.args.points.now c.loop-matched.matched-index c.matched-item.result c.loop-matched.invariant.are c.loop-matched-test.true in
    subst (λ k. 0 < length k) (sym c.as_slice.ensures.value) (subst (λ m. 0 < length m.key.items) (sym c.matched-item.is) some)

pub returns-clause-value : goal.returns-clause-value
returns-clause-value c =
    let t = c.args.t.now in let ms = c.deref-matched-items.result.now in
    sym (append-nil c.loop-matched.elements.items) ∙ ap (λ xs. c.loop-matched.elements.items ++ elements_by t xs) (sym (drop_all c.loop-matched.matched-index ms c.loop-matched-test.false)) ∙ c.loop-matched.invariant.same ∙ elements_by-keys t ms c.args.points.now c.loop-matched.invariant.are

pub returns-clause-some : goal.returns-clause-some
returns-clause-some c = λ h.
    let some : 0 < length c.deref-matched-items.result.now = some_matches (contains (key_set c.args.t.now)) c.deref-matched-items.result.now c.args.points.now c.loop-matched.invariant.are h in
    omega (arith, some, c.loop-matched-test.false, c.loop-matched.invariant.some)
