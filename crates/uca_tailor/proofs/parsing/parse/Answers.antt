use Rattle.std.proofs.Common.{◌≡◌, ◌≢◌, ◌+◌, ◌∷◌, ◌++◌, [], length, chars, sym, subst, ◌∙◌, arith}
use Rattle.std.proofs.lemmas.Bool.{cond-true}
use Rattle.std.proofs.lemmas.Result.{err_from_is_err_and}
use Rattle.uca_tailor.proofs.ParsingLemmas.{InRules, rules_more, rules_end, rules_refused, leading_refused, before_reset, reset_from, pushed, leading_some, operator_some}
use Rattle.uca_tailor.specs.Strings.{left_of, BeginsWith}
use Rattle.uca_model.specs.RuleText.{leading_faults}
use Rattle.std.proofs.Common.{flat_map}
use Rattle.uca_tailor.proofs.parsing.parse.Goals as goal

pub returns-in_err-next-clause-says : goal.returns-in_err-next-clause-says
returns-in_err-next-clause-says c = let p = err_from_is_err_and c.from_residual.result c.from_residual.ensures.1 in rw (p.1, p.2) (leading_refused c.in_err-next.field-0.0 (chars c.args.text.now) (subst (λ s. BeginsWith c.in_err-next.field-0.0 (flat_map leading_faults (left_of s).leading)) c.new-scanner.ensures c.in_err-next.ensures.next))

pub returns-then-not-is_reset-clause-says : goal.returns-then-not-is_reset-clause-says
returns-then-not-is_reset-clause-says c = before_reset c.fault_at.result (chars c.args.text.now) c.loop-next.chains.items c.loop-next.count c.loop-next.next c.in-Some.found c.loop-next.scanner c.loop-next.invariant c.in-Some.is (sym c.is_reset.ensures ∙ c.if-not-is_reset.true) c.fault_at.ensures.cause c.fault_at.ensures.at

pub returns-in_err-chain-clause-says : goal.returns-in_err-chain-clause-says
returns-in_err-chain-clause-says c = let p = err_from_is_err_and c.from_residual-in_err-chain.result c.from_residual-in_err-chain.ensures.1 in rw (p.1, p.2) (rules_refused c.in_err-chain.field-0.0 (chars c.args.text.now) c.loop-next.chains.items c.loop-next.count c.loop-next.next c.in-Some.found c.loop-next.scanner c.loop-next.invariant c.in-Some.is (reset_from c.in-Some.found.operator (sym c.is_reset.ensures ∙ c.if-not-is_reset.false)) c.in_err-chain.ensures)

pub returns-clause-says : goal.returns-clause-says
returns-clause-says c = rules_end (chars c.args.text.now) c.loop-next.chains.items c.loop-next.count c.loop-next.next c.loop-next.scanner c.loop-next.invariant c.in_default.is

pub loop-next-preserved : goal.loop-next-preserved
loop-next-preserved c =
    let items : c.push.new.self.items ≡ c.loop-next.chains.items ++ c.in_ok-chain.chain ∷ [] = c.push.ensures.items ∙ cond-true _ _ _ (pushed c.push.result c.is_err.result c.is_err.ensures.value c.if-is_err.false) in
    let count : c.loop-next.count + c.len-count.result ≡ c.loop-next.count + length c.in_ok-chain.chain.relations.items = (let k = c.in_ok-chain.chain.relations.ok.0 in omega (arith, k, c.len-count.ensures)) in
    subst (λ n. InRules (chars c.args.text.now) c.push.new.self.items n c.in_ok-chain.after c.read_chain.new.scanner) (sym count)
    (subst (λ cs. InRules (chars c.args.text.now) cs (c.loop-next.count + length c.in_ok-chain.chain.relations.items) c.in_ok-chain.after c.read_chain.new.scanner) (sym items)
    (rules_more (chars c.args.text.now) c.loop-next.chains.items c.loop-next.count c.loop-next.next c.in_ok-chain.after c.in-Some.found c.loop-next.scanner c.read_chain.new.scanner c.in_ok-chain.chain c.loop-next.invariant c.in-Some.is (reset_from c.in-Some.found.operator (sym c.is_reset.ensures ∙ c.if-not-is_reset.false)) c.in_ok-chain.ensures))

pub returns-in_err-next-clause-some : goal.returns-in_err-next-clause-some
returns-in_err-next-clause-some c = let p = err_from_is_err_and c.from_residual.result c.from_residual.ensures.1 in rw p.1 (leading_some (chars c.args.text.now) (subst (λ s. flat_map leading_faults (left_of s).leading ≢ []) c.new-scanner.ensures c.in_err-next.ensures.some))

pub returns-then-not-is_reset-clause-some : goal.returns-then-not-is_reset-clause-some
returns-then-not-is_reset-clause-some c = operator_some (chars c.args.text.now) c.loop-next.chains.items c.loop-next.count c.loop-next.next c.in-Some.found c.loop-next.scanner c.loop-next.invariant c.in-Some.is

pub returns-in_err-chain-clause-some : goal.returns-in_err-chain-clause-some
returns-in_err-chain-clause-some c = let p = err_from_is_err_and c.from_residual-in_err-chain.result c.from_residual-in_err-chain.ensures.1 in rw p.1 (operator_some (chars c.args.text.now) c.loop-next.chains.items c.loop-next.count c.loop-next.next c.in-Some.found c.loop-next.scanner c.loop-next.invariant c.in-Some.is)

pub returns-then-is_err-clause-some : goal.returns-then-is_err-clause-some
returns-then-is_err-clause-some c = operator_some (chars c.args.text.now) c.loop-next.chains.items c.loop-next.count c.loop-next.next c.in-Some.found c.loop-next.scanner c.loop-next.invariant c.in-Some.is
