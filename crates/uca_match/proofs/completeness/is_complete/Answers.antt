use Rattle.std.proofs.Common.{chars, unwrap_or, sym, ap, ◌∙◌}
use Rattle.uca_model.specs.Prefix.{is_complete}
use Rattle.uca_match.proofs.CompletenessLemmas.{complete-last}
use Rattle.uca_match.proofs.completeness.is_complete.Goals as goal

pub returns-in-Some-ends_complete : goal.returns-in-Some-ends_complete
returns-in-Some-ends_complete c =
    sym (complete-last c.args.t.now (chars c.loop-front.left.now) (chars c.in-Some.front.now) c.decomposition.result.now c.in-Some.c c.ends_complete.result c.in-Some.ensures.some c.decomposition.ensures.value c.ends_complete.ensures
    ∙ ap (λ o. unwrap_or o (is_complete c.args.t.now (chars c.in-Some.front.now))) c.in-Some-ends_complete.is) ∙ c.loop-front.invariant.1

pub loop-front-preserved : goal.loop-front-preserved
loop-front-preserved c = (
  c.in-Some.ensures.utf8,
  sym (complete-last c.args.t.now (chars c.loop-front.left.now) (chars c.in-Some.front.now) c.decomposition.result.now c.in-Some.c c.ends_complete.result c.in-Some.ensures.some c.decomposition.ensures.value c.ends_complete.ensures
      ∙ ap (λ o. unwrap_or o (is_complete c.args.t.now (chars c.in-Some.front.now))) c.in_default-ends_complete.is) ∙ c.loop-front.invariant.1,
)
