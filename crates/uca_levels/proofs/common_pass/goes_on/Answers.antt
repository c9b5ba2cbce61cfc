use Rattle.std.proofs.Common.{rules, arith, ◌≡◌, false, inl, inr, sym, ap, ◌∙◌}
use Rattle.uca_match.specs.RemainingElements.{is_asking}
use Rattle.uca_levels.specs.RemainingWeights.{WeightsState}
use Rattle.uca_levels.proofs.CommonLemmas.{common-char, common-cut, common-parts, common-weight}
use Rattle.uca_levels.proofs.common_pass.goes_on.Goals as goal
use Rattle.std.proofs.lemmas.Grind.{common_steps}

pub returns-then-not-wants-clause-on : goal.returns-then-not-wants-clause-on
returns-then-not-wants-clause-on g c = λ v was wus h _.
    let idle : is_asking c.args.left.now.elements ≡ false = sym c.wants.ensures ∙ c.if-not-wants.true in
    let also : is_asking c.args.right.now.elements ≡ false = ap (λ (w : WeightsState). is_asking w.elements) (sym c.requires.same) ∙ idle in
    common-weight c.args.t.now v was wus c.args.left.now c.args.right.now c.args.marked.now (g.S.Source.state c.args.a.now) (g.T.Source.state c.args.b.now) h c.requires.valid idle
    c.next_of_all-weight.result c.next_of_all-same.result _ _ _ _ (c.next_of_all-weight.ensures.held idle) (c.next_of_all-same.ensures.held also) c.next_of_all-weight.ensures.yields c.next_of_all-same.ensures.yields

pub returns-then-ne-clause-parts : goal.returns-then-ne-clause-parts
returns-then-ne-clause-parts g c = λ v was wus h _.
    common-parts c.args.t.now v was wus _ _ _ _ _ h c.read-x.result c.read-y.result _ _ _ _ c.read-x.ensures c.read-y.ensures (inr (search (arith, rules, c.ne.ensures, c.if-ne.true)))

pub returns-in-None-clause-parts : goal.returns-in-None-clause-parts
returns-in-None-clause-parts g c = λ v was wus h _.
    common-parts c.args.t.now v was wus _ _ _ _ _ h c.read-x.result c.read-y.result _ _ _ _ c.read-x.ensures c.read-y.ensures (inl c.in-None.is)

pub returns-then-is_cut-clause-on : goal.returns-then-is_cut-clause-on
returns-then-is_cut-clause-on g c = λ v was wus h _. grind (arith, common_steps, common-cut)

pub returns-else-is_cut-clause-on : goal.returns-else-is_cut-clause-on
returns-else-is_cut-clause-on g c = λ v was wus h _. grind (arith, common_steps, common-char)
