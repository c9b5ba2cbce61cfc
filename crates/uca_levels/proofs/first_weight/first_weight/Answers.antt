use Rattle.std.proofs.Common.{Some, subst, sym, ap, ◌∙◌, arith}
use Rattle.uca_weights.specs.VariableWeighting.{weights}
use Rattle.uca_weights.specs.Weigher.{WeigherState}
use Rattle.std.specs.Prelude.{slice_index}
use Rattle.uca_levels.specs.FirstWeight.{BringsWeight}
use Rattle.uca_levels.proofs.FirstWeight.{first-brings, end-brings}
use Rattle.uca_levels.proofs.first_weight.first_weight.Goals as goal
use Rattle.std.proofs.lemmas.Grind.{common_steps}

pub returns-in_default : goal.returns-in_default
returns-in_default c = grind (arith, common_steps, end-brings)

pub returns : goal.returns
returns c =
    subst (λ x. BringsWeight c.args.t.now c.args.v x (Some c.weigh_at-weight.result)) (sym c.in-Some.is)
    (first-brings c.args.t.now c.args.v c.in-Some.c c.in_ok-starter.starter.now c.decomposition-points.result.now c.in_ok-starter._marks.now c.in_ok-first.first.now c.in_ok-elements.elements.now c.in_ok-first._others.now c.weigh_at-weight.result
    c.requires c.decomposition-points.ensures.value
    c.in_ok-starter.ensures.cases.0
    (sym c.safe_starter.ensures ∙ c.if-not-safe_starter.false)
    c.in_ok-elements.ensures
    c.in_ok-first.ensures.cases.0
    (c.weigh_at-weight.ensures.weight ∙ ap (λ (w : WeigherState). slice_index (weights w.weighting w.after c.in_ok-first.first.now) 0) c.new-weigher.ensures.value)
    (λ none. absurd (omega (arith, c.if-weight-eq0.false, none))) c.weigh_at-weight.type_inv)
