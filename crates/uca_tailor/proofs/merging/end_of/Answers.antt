use Rattle.std.proofs.Common.{◌<◌, length, ap, ◌∙◌, sym, arith, is_le}
use Rattle.uca_model.specs.Table.{key_cmp}
use Rattle.uca_tailor.proofs.CopyLemmas.{one_up_to, none_up_to}
use Rattle.uca_tailor.proofs.merging.end_of.Goals as goal

pub loop-at-preserved : goal.loop-at-preserved
loop-at-preserved c =
    let items = c.args.items.now in let at = c.loop-at.at in let key = c.args.key.now in
    let within : at < length items = omega (arith, c.loop-at-test.true) in
    record {
      ordered = omega (arith, c.loop-at.invariant.ordered);
      within = omega (arith, within);
      place = c.loop-at.invariant.place ∙ one_up_to key items at c.index-items-at.result within (sym (c.is_le.ensures ∙ ap is_le (c.cmp.ensures ∙ ap (λ k. key_cmp k key) c.as_slice.ensures.value)) ∙ c.if-is_le.true);
    }

pub returns-else-is_le-clause-place : goal.returns-else-is_le-clause-place
returns-else-is_le-clause-place c =
    let items = c.args.items.now in let at = c.loop-at.at in let key = c.args.key.now in
    let within : at < length items = omega (arith, c.loop-at-test.true) in
    let none = none_up_to key items at c.index-items-at.result within (sym (c.is_le.ensures ∙ ap is_le (c.cmp.ensures ∙ ap (λ k. key_cmp k key) c.as_slice.ensures.value)) ∙ c.if-is_le.false) in
    sym (c.loop-at.invariant.place ∙ omega (arith, none))
