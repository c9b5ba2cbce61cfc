use Rattle.std.proofs.Common.{◌≡◌, ◌+◌, ◌≤◌, Ok, length, map, drop, sym, ap, subst, ◌∙◌, arith}
use Rattle.std.proofs.lemmas.List.{length-map}
use Rattle.std.proofs.lemmas.Result.{err_from_is_err_and}
use Rattle.std.specs.List.{All}
use Rattle.uca_model.specs.CollationElements.{elements}
use Rattle.uca_model.specs.Rules.{IsChain, IsRelation, items}
use Rattle.uca_model.specs.Tailoring.{related_all, tailored_from}
use Rattle.uca_tailor.specs.Chains.{relation_of, chain_of}
use Rattle.uca_tailor.specs.Faults.{RefusesRelation}
use Rattle.uca_tailor.proofs.RelationSteps.{chain_refused, chain_applied, chains_done, next_chain, valid_chain, items_left}
use Rattle.uca_tailor.proofs.tailoring.relate_chains.Goals as goal

pub relate_all-requires-clause-some : goal.relate_all-requires-clause-some
relate_all-requires-clause-some c =
    let cs = c.chains-chain-items.result.now in
    let valid = valid_chain cs c.loop-chain.chain-index c.chain-item.result c.loop-chain-test.true c.chain-item.is (subst (λ xs. All IsChain xs) (sym c.chains-chain-items.ensures.value) c.chains-chain-items.ensures.valid.chains) in
    let some : 1 ≤ length c.chain-item.result.reset.items = valid.reset.some in
    let same : length c.deref.result.now ≡ length c.chain-item.result.reset.items = ap length c.deref.ensures.value in
    c.in_ok-reset.ensures.some (omega (arith, some, same))

pub relate_all-requires-clause-valid : goal.relate_all-requires-clause-valid
relate_all-requires-clause-valid c =
    let cs = c.chains-chain-items.result.now in
    let valid = valid_chain cs c.loop-chain.chain-index c.chain-item.result c.loop-chain-test.true c.chain-item.is (subst (λ xs. All IsChain xs) (sym c.chains-chain-items.ensures.value) c.chains-chain-items.ensures.valid.chains) in
    subst (λ rs. All IsRelation (map relation_of rs)) (sym c.deref-in-loop-chain.ensures.value) valid.relations

pub returns-in_err-relate_all : goal.returns-in_err-relate_all
returns-in_err-relate_all c =
    let cs = c.chains-chain-items.result.now in let t = c.loop-chain.t in let n = c.loop-chain.count in let chain = c.chain-item.result in
    let reset : c.in_ok-reset.reset.items ≡ elements t chain.reset.items = c.in_ok-reset.ensures.value ∙ ap (elements t) c.deref.ensures.value in
    let says = subst (λ rs. RefusesRelation (related_all n t c.in_ok-reset.reset.items (map relation_of rs)) c.in_err-relate_all.field-0.0) c.deref-in-loop-chain.ensures.value c.in_err-relate_all.ensures in
    let p = err_from_is_err_and c.from_residual-in_err-relate_all.result c.from_residual-in_err-relate_all.ensures.1 in
    rw (p.1, p.2) (subst (λ xs. RefusesRelation (tailored_from 0 c.args.t.now xs) c.in_err-relate_all.field-0.0) c.chains-chain-items.ensures.value
    (chain_refused n t c.in_ok-reset.reset.items (chain_of chain) (map chain_of (drop (c.loop-chain.chain-index + 1) cs)) c.in_err-relate_all.field-0.0 _ reset says (next_chain n t cs c.loop-chain.chain-index chain _ c.loop-chain-test.true c.chain-item.is c.loop-chain.invariant.same)))

pub loop-chain-preserved : goal.loop-chain-preserved
loop-chain-preserved c =
    let cs = c.chains-chain-items.result.now in let t = c.loop-chain.t in let n = c.loop-chain.count in let chain = c.chain-item.result in
    let reset : c.in_ok-reset.reset.items ≡ elements t chain.reset.items = c.in_ok-reset.ensures.value ∙ ap (elements t) c.deref.ensures.value in
    let says = subst (λ rs. related_all n t c.in_ok-reset.reset.items (map relation_of rs) ≡ Ok c.relate_all.new.t) c.deref-in-loop-chain.ensures.value c.in_ok-relate_all.ensures in
    let k = chain.relations.ok.0 in
    let size : c.len.result ≡ length chain.relations.items = omega (arith, k, c.len.ensures) in
    let left : length (items (map chain_of (drop c.loop-chain.chain-index cs))) ≡ length chain.relations.items + length (items (map chain_of (drop (c.loop-chain.chain-index + 1) cs))) = items_left cs c.loop-chain.chain-index chain c.loop-chain-test.true c.chain-item.is in
    record {
      same = chain_applied n c.len.result t c.relate_all.new.t c.in_ok-reset.reset.items (chain_of chain) (map chain_of (drop (c.loop-chain.chain-index + 1) cs)) _ reset (size ∙ sym (length-map chain.relations.items relation_of)) says
          (next_chain n t cs c.loop-chain.chain-index chain _ c.loop-chain-test.true c.chain-item.is c.loop-chain.invariant.same);
      count = omega (arith, size, left, c.loop-chain.invariant.count);
    }

pub returns : goal.returns
returns c = sym (ap (tailored_from 0 c.args.t.now) c.chains-chain-items.ensures.value) ∙ chains_done c.loop-chain.count c.loop-chain.t c.chains-chain-items.result.now c.loop-chain.chain-index _ c.loop-chain-test.false c.loop-chain.invariant.same
