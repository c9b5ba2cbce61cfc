use Rattle.std.proofs.Common.{◌≡◌, ◌∙◌, subst}
use Rattle.std.specs.Prelude.{chars, Ok}
use Rattle.uca_model.specs.RuleText.{rules_of}
use Rattle.uca_tailor.specs.Faults.{RefusesText, reported_cause, reported_text_cause}
use Rattle.uca_handle.specs.declared.faults.OpenFault.TheVariants.{Rules, Tailor}
use Rattle.uca_handle.specs.Opening.{SaysChains}
use Rattle.uca_handle.proofs.OpeningLemmas.{refused_as}
use Rattle.uca_handle.proofs.opening.tailored_by.Goals as goal

pub returns-in-Err : goal.returns-in-Err
returns-in-Err c = (c.in-Err.ensures.cases.0, c.valid_up_to.ensures ∙ c.in-Err.ensures.valid_len)

pub returns-in_err-parsed : goal.returns-in_err-parsed
returns-in_err-parsed c =
    let f = c.in_err-parsed.field-0.0 in
    refused_as (reported_text_cause f.cause) _ _ _ c.args.base.now c.args.rules.now (Rules f) c.from_residual.result c.from_residual.ensures.1
    (subst (λ bs. RefusesText (rules_of (chars bs)) f) c.in-Ok.ensures.cases.0 c.in_err-parsed.ensures.says) (λ fault. (c.in-Ok.ensures.cases.1, fault))

pub returns-in_err-tailor : goal.returns-in_err-tailor
returns-in_err-tailor c =
    let f = c.in_err-tailor.field-0.0 in
    let given : SaysChains c.args.rules.now c.in_ok-parsed.parsed = record {
      utf8 = c.in-Ok.ensures.cases.1;
      says = subst (λ bs. rules_of (chars bs) ≡ Ok c.in_ok-parsed.parsed) c.in-Ok.ensures.cases.0 c.in_ok-parsed.ensures.says;
    } in
    refused_as (reported_cause f.cause) _ _ _ c.args.base.now c.args.rules.now (Tailor f) c.from_residual-in_err-tailor.result c.from_residual-in_err-tailor.ensures.1 c.in_err-tailor.ensures
    (λ fault. record { chains = c.in_ok-parsed.parsed; says_chains = given; fault = fault })

pub returns : goal.returns
returns c = record {
  chains = c.in_ok-parsed.parsed;
  says_chains = record {
    utf8 = c.in-Ok.ensures.cases.1;
    says = subst (λ bs. rules_of (chars bs) ≡ Ok c.in_ok-parsed.parsed) c.in-Ok.ensures.cases.0 c.in_ok-parsed.ensures.says;
  };
  tailoring = c.in_ok-tailor.ensures;
}
