use Rattle.std.proofs.Common.{ℕ, ◌≡◌, ◌<◌, ◌++◌, length, get_or, map, take, Bor, Vec, Global, ap, ap₂, subst, ◌∙◌, arith}
use Rattle.std.proofs.lemmas.List.{get_or_default}
use Rattle.uca_tailor.specs.declared.items.Item.{Item}
use Rattle.uca_tailor.specs.Copy.{Holds, entered_item, item_entries}
use Rattle.uca_tailor.specs.Moves.{moved_element, cut}
use Rattle.uca_tailor.proofs.CopyLemmas.{Holds-between, entered_at, one_entered}
use Rattle.uca_tailor.proofs.merging.append_items.Goals as goal

pub push_moved-requires : goal.push_moved-requires
push_moved-requires c = (entered_at c.args.moves.now c.args.items.now c.loop-at.at _ c.requires.entered (omega (arith, c.loop-at-test.true, c.requires.within))).past

pub loop-at-preserved : goal.loop-at-preserved
loop-at-preserved c = λ es holds.
    let m = c.args.moves.now in let items = c.args.items.now in let at = c.loop-at.at in
    let within : at < length items = omega (arith, c.loop-at-test.true, c.requires.within) in
    let d = c.index-items-at-in-loop-at.result in let after = (get_or items at d).1.now.after in
    let k = c.deref-in-loop-at.result.now in let v = c.deref-in-loop-at-2.result.now in
    subst (λ xs. Holds c.append.new.merged (xs ++ es))
    (one_entered m items at d k v within (c.deref-in-loop-at.ensures.value ∙ ap (λ (e : Bor (Vec ℕ Global) × Bor Item). e.0.now.items) (get_or_default items at c.index-items-at.result d within))
    (c.deref-in-loop-at-2.ensures.value ∙ c.in_ok-push_moved.ensures ∙ ap₂ (λ xs ys. xs ++ map cut (map (moved_element m after) ys)) c.clear.ensures.items c.deref.ensures.value))
    (Holds-between c.loop-at.merged c.append.new.merged (item_entries m (take at (map entered_item items))) es k v (c.loop-at.invariant es holds) c.in_ok-append.ensures.fresh c.in_ok-append.ensures.entry)

pub returns : goal.returns
returns c = λ es holds.
    let end : c.loop-at.at ≡ c.args.to = omega (arith, c.loop-at-test.false, c.loop-at.auto.at-end c.requires.ordered) in
    subst (λ n. Holds c.loop-at.merged (item_entries c.args.moves.now (take n (map entered_item c.args.items.now)) ++ es)) end (c.loop-at.invariant es holds)
