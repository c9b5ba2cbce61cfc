use Rattle.std.proofs.Common.{◌≡◌, ◌+◌, ◌-◌, ℕ, true, false, map, is_some, ap, sym, ◌∙◌, arith}
use Rattle.std.specs.FinMap.{entries}
use Rattle.uca_tailor.specs.Counting.{count_shown}
use Rattle.uca_tailor.specs.Counts.{count_at}
use Rattle.uca_tailor.specs.Moves.{cut, moved_element, start}
use Rattle.uca_tailor.proofs.CountedEntries.{AreCapped-same, AreCapped-next, AreCapped-end, fewer_left, shown-hidden, shown-counted}
use Rattle.uca_tailor.proofs.RenumberedLemmas.{item_at}
use Rattle.uca_tailor.proofs.counting.add_entries.Goals as goal

pub loop-key-preserved-then-not-contains_key : goal.loop-key-preserved-then-not-contains_key
loop-key-preserved-then-not-contains_key c =
    let level : ℕ = c.args.level in let m = c.args.moves.now in let items = c.args.items.now.entries in let all = entries c.args.t.now.entries in
    let own : ℕ → ℕ = λ x. count_at level x (map cut (map (moved_element m start) c.in-Some.elements.now)) in
    let shown : is_some (item_at c.in-Some.key.items items) ≡ false = ap (λ q. is_some (item_at q items)) (sym c.as_slice.ensures.value) ∙ sym c.contains_key.ensures ∙ c.if-not-contains_key.true in
    let step : (x : ℕ) → count_shown level x m items c.loop-key.key-iterator ≡ own x + count_shown level x m items c.next.new.self = λ x. shown-counted level x m items (c.in-Some.key.items, c.in-Some.elements.now) c.loop-key.key-iterator c.next.new.self c.in-Some.ensures.steps shown in
    record {
      can = tt;
      finite = tt;
      size = c.add_moved.ensures.size ∙ c.loop-key.invariant.size;
      left = λ x. fewer_left (count_shown level x m items all) (count_shown level x m items c.loop-key.key-iterator) (own x) (count_shown level x m items c.next.new.self) (step x) (c.loop-key.invariant.left x);
      capped = λ n h. AreCapped-next c.loop-key.counts c.add_moved.new.counts n (λ x. count_shown level x m items all) (λ x. count_shown level x m items c.loop-key.key-iterator) (λ x. count_shown level x m items c.next.new.self) own step c.loop-key.invariant.left c.add_moved.ensures.capped (c.loop-key.invariant.capped n h);
    }

pub loop-key-preserved : goal.loop-key-preserved
loop-key-preserved c =
    let level : ℕ = c.args.level in let m = c.args.moves.now in let items = c.args.items.now.entries in let all = entries c.args.t.now.entries in
    let hidden : is_some (item_at c.in-Some.key.items items) ≡ true = ap (λ q. is_some (item_at q items)) (sym c.as_slice.ensures.value) ∙ sym c.contains_key.ensures ∙ c.if-not-contains_key.false in
    let step : (x : ℕ) → count_shown level x m items c.loop-key.key-iterator ≡ count_shown level x m items c.next.new.self = λ x. shown-hidden level x m items (c.in-Some.key.items, c.in-Some.elements.now) c.loop-key.key-iterator c.next.new.self c.in-Some.ensures.steps hidden in
    record {
      can = tt;
      finite = tt;
      size = c.loop-key.invariant.size;
      left = λ x. fewer_left (count_shown level x m items all) (count_shown level x m items c.loop-key.key-iterator) 0 (count_shown level x m items c.next.new.self) (omega (arith, step x)) (c.loop-key.invariant.left x);
      capped = λ n h. AreCapped-same c.loop-key.counts (λ x. n x + (count_shown level x m items all - count_shown level x m items c.loop-key.key-iterator)) (λ x. n x + (count_shown level x m items all - count_shown level x m items c.next.new.self)) (λ x. ap (λ k. n x + (count_shown level x m items all - k)) (step x)) (c.loop-key.invariant.capped n h);
    }

pub returns-clause-capped : goal.returns-clause-capped
returns-clause-capped c =
    let level : ℕ = c.args.level in let m = c.args.moves.now in let items = c.args.items.now.entries in
    λ n h. AreCapped-end c.loop-key.counts n (λ x. count_shown level x m items (entries c.args.t.now.entries)) (λ x. count_shown level x m items c.loop-key.key-iterator) (λ x. ap (count_shown level x m items) c.in-None.ensures.steps.0) (c.loop-key.invariant.capped n h)
