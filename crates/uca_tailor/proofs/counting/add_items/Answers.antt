use Rattle.std.proofs.Common.{◌≡◌, ◌+◌, ℕ, List, map, ap, sym, subst, ◌∙◌}
use Rattle.std.specs.List.{AllByRecursion}
use Rattle.uca_weights.specs.declared.element.Element.{Element}
use Rattle.uca_tailor.specs.Copy.{item_entries}
use Rattle.uca_tailor.specs.Counts.{count_at, count_in}
use Rattle.uca_tailor.specs.Moves.{cut, moved_element}
use Rattle.uca_tailor.specs.Renumbered.{IsItem}
use Rattle.uca_tailor.proofs.CountedEntries.{AreCapped-next, AreCapped-end, fewer_left}
use Rattle.uca_tailor.proofs.counting.add_items.Goals as goal

pub loop-item-preserved : goal.loop-item-preserved
loop-item-preserved c =
    let level : ℕ = c.args.level in let m = c.args.moves.now in
    let own : ℕ → ℕ = λ x. count_at level x (map cut (map (moved_element m c.in-Some.item.now.after) c.deref.result.now)) in
    let step : (x : ℕ) → count_in level x (item_entries m c.loop-item.item-iterator) ≡ own x + count_in level x (item_entries m c.next.new.self) = λ x.
    ap (λ is. count_in level x (item_entries m is)) c.in-Some.ensures.steps
    ∙ ap (λ (es : List Element). count_at level x (map cut (map (moved_element m c.in-Some.item.now.after) es)) + count_in level x (item_entries m c.next.new.self)) (sym c.deref.ensures.value) in
    record {
      can = tt;
      finite = tt;
      size = c.add_moved.ensures.size ∙ c.loop-item.invariant.size;
      order = c.loop-item.invariant.order;
      entered = (subst (AllByRecursion (λ i. IsItem m i.1)) c.in-Some.ensures.steps c.loop-item.invariant.entered).1;
      left = λ x. fewer_left (count_in level x (item_entries m c.args.items.now.entries)) (count_in level x (item_entries m c.loop-item.item-iterator)) (own x) (count_in level x (item_entries m c.next.new.self)) (step x) (c.loop-item.invariant.left x);
      capped = λ n h. AreCapped-next c.loop-item.counts c.add_moved.new.counts n (λ x. count_in level x (item_entries m c.args.items.now.entries)) (λ x. count_in level x (item_entries m c.loop-item.item-iterator)) (λ x. count_in level x (item_entries m c.next.new.self)) own step c.loop-item.invariant.left c.add_moved.ensures.capped (c.loop-item.invariant.capped n h);
    }

pub returns-clause-capped : goal.returns-clause-capped
returns-clause-capped c =
    let level : ℕ = c.args.level in let m = c.args.moves.now in
    λ n h. AreCapped-end c.loop-item.counts n (λ x. count_in level x (item_entries m c.args.items.now.entries)) (λ x. count_in level x (item_entries m c.loop-item.item-iterator)) (λ x. ap (λ is. count_in level x (item_entries m is)) c.in-None.ensures.steps.0) (c.loop-item.invariant.capped n h)
