use Rattle.std.proofs.Common.{◌≡◌, ◌<◌, length, map, take, sym, ap, subst, ◌∙◌}
use Rattle.std.proofs.lemmas.List.{take_all}
use Rattle.std.specs.FinSet.{contains}
use Rattle.unicode_normalization.specs.Forms.{nfd}
use Rattle.uca_model.specs.CollationElements.{matches}
use Rattle.uca_window.specs.Passage.{text_of}
use Rattle.uca_match.specs.Keys.{key_set}
use Rattle.uca_match.specs.Matches.{match_of}
use Rattle.uca_match.proofs.KeyLemmas.{contains-key_set}
use Rattle.uca_tailor.proofs.RenumberedLemmas.{matched_some}
use Rattle.uca_handle.specs.Listed.{Lists}
use Rattle.uca_handle.proofs.matches.list_matches.Goals as goal

pub loop-matched-init : goal.loop-matched-init
loop-matched-init c = c.new-all.ensures c.args.t.now

pub push-requires : goal.push-requires
push-requires c =
    let are = ap (map match_of) c.deref-matched-items.ensures.value ∙ c.in_ok-matches.ensures in
    let some = matched_some c.deref-matched-items.result.now (contains (key_set c.args.t.now)) (nfd (text_of c.args.p.now)) c.loop-matched.matched-index c.matched-item.result are c.loop-matched-test.true in
    subst (λ m. 0 < length m.key.items) (sym c.matched-item.is) some

pub returns : goal.returns
returns c =
    let all : map match_of (take c.loop-matched.matched-index c.deref-matched-items.result.now) ≡ matches (contains (key_set c.args.t.now)) (nfd (text_of c.args.p.now)) =
    ap (map match_of) (take_all _ _ c.loop-matched-test.false ∙ c.deref-matched-items.ensures.value) ∙ c.in_ok-matches.ensures in
    subst (λ ms. Lists c.args.t.now ms c.loop-matched.all) (all ∙ (λ i. matches (λ key. contains-key_set c.args.t.now key i) (nfd (text_of c.args.p.now)))) c.loop-matched.invariant
