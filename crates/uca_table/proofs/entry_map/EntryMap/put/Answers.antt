use Rattle.uca_table.proofs.Common.{sym, ap, ap₂, ◌∙◌, arith, rules, put, key_cmp, longest_of, common_steps}
use Rattle.uca_table.proofs.BuilderLemmas.{on_err}
use Rattle.uca_table.proofs.EntryLemmas.{fold-some, longest-put}
use Rattle.uca_table.proofs.EntryMapLemmas.{unchanged, point-inserted, longer-inserted, key_one}
use Rattle.uca_table.proofs.entry_map.EntryMap.put.Goals as goal

pub invariant_of-self-in_err-insert : goal.invariant_of-self-in_err-insert
invariant_of-self-in_err-insert c =
    let both = unchanged c.insert.new.self c.self.invariant.0 c.insert.ensures.map c.in_err-insert.ensures.err c.reserve.ensures.items in
    (both.0, c.self.invariant.1 ∙ sym (ap longest_of both.1))

pub returns-in_err-insert-clause-err : goal.returns-in_err-insert-clause-err
returns-in_err-insert-clause-err c = on_err _ ((unchanged c.insert.new.self c.self.invariant.0 c.insert.ensures.map c.in_err-insert.ensures.err c.reserve.ensures.items).1 ∙ c.self.view_is)

-- ---- a key of one code point

pub invariant_of-self-then-key-eq1 : goal.invariant_of-self-then-key-eq1
invariant_of-self-then-key-eq1 c =
    let both = point-inserted c.insert.new.self c.args.elements.now c.index-key-0.result c.len-start.result c.self.invariant.0 c.insert.ensures.map c.reserve.ensures.items c.push_reserved.ensures (search rules) c.in_ok-insert.ensures.ok in
    (both.0, grind (arith, common_steps, both, fold-some, longest-put))

pub returns-then-key-eq1-clause-ok : goal.returns-then-key-eq1-clause-ok
returns-then-key-eq1-clause-ok c =
    (point-inserted c.insert.new.self c.args.elements.now c.index-key-0.result c.len-start.result c.self.invariant.0 c.insert.ensures.map c.reserve.ensures.items c.push_reserved.ensures (search rules) c.in_ok-insert.ensures.ok).1
    ∙ ap₂ (λ q xs. put key_cmp q c.args.elements.now xs) (key_one c.args.key.now c.index-key-0.result c.if-key-eq1.true c.index-key-0.is) c.self.view_is

-- ---- a longer key

pub invariant_of-self-2 : goal.invariant_of-self-2
invariant_of-self-2 c =
    let both = longer-inserted c.args.elements.now c.in_ok-longer.longer c.len-start.result c.self.invariant.0 c.reserve.ensures.items c.push_reserved-2.ensures (search rules) (grind (arith, common_steps)) c.in_ok-insert-2.ensures.entries in
    (both.0, grind (arith, common_steps, both, longest-put))

pub returns-clause-ok : goal.returns-clause-ok
returns-clause-ok c =
    (longer-inserted c.args.elements.now c.in_ok-longer.longer c.len-start.result c.self.invariant.0 c.reserve.ensures.items c.push_reserved-2.ensures (search rules) (grind (arith, common_steps)) c.in_ok-insert-2.ensures.entries).1
    ∙ ap₂ (λ q xs. put key_cmp q c.args.elements.now xs) (search rules) c.self.view_is
