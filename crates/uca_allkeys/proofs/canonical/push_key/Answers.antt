use Rattle.std.proofs.Common.{List, ℕ, ap, sym, ◌∙◌, ◌++◌, append_assoc, arith}
use Rattle.uca_model.specs.CanonicalText.{point_text, key_text}
use Rattle.uca_model.proofs.CanonicalLemmas.{key_text-cons, more_points}
use Rattle.uca_allkeys.proofs.canonical.push_key.Goals as goal

pub loop-c-init : goal.loop-c-init
loop-c-init c =
    let first : ℕ = c.in-Some.first.now in let others : List ℕ = c.in-Some.others.now in
    record {
      text = ap (λ t. t ++ more_points others) c.push_point.ensures.text ∙ append_assoc c.args.line.now.items (point_text first) (more_points others)
          ∙ ap (λ t. c.args.line.now.items ++ t) (sym (key_text-cons first others) ∙ sym (ap key_text c.in-Some.ensures.cases.0));
      grows = omega (arith, c.push_point.ensures.grows, c.in-Some.ensures.cases.1);
    }
