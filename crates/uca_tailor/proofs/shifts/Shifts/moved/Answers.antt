use Rattle.std.proofs.Common.{◌≡◌, ℕ, ◌+◌, ◌<◌, min, List, ◌∷◌, length, take, drop, get_or, sym, ap, subst, ◌∙◌, arith, rules}
use Rattle.std.proofs.lemmas.List.{drop_more, length-take, length-drop, get_or_read}
use Rattle.uca_model.specs.Gap.{weight_with_gap}
use Rattle.uca_tailor.specs.Shifts.{moved, moved_at_once, AreBlocks}
use Rattle.uca_tailor.proofs.ShiftLemmas.{moved-cut}
use Rattle.uca_tailor.proofs.BlockLemmas.{block-end}
use Rattle.uca_tailor.proofs.shifts.Shifts.moved.Goals as goal

pub loop-at-preserved-then-is_large : goal.loop-at-preserved-then-is_large
loop-at-preserved-then-is_large c =
    let level = c.args.level in let ws : List ℕ = c.args.self.now in let bs : List ℕ = c.self.inside.large.items in let at : ℕ = c.loop-at.at in
    let is : c.block-wide.result.now ≡ take 4096 (drop at bs) = c.block-wide.ensures ∙ ap (λ (xs : List ℕ). take 4096 (drop at xs)) c.deref-then-is_large.ensures.value in
    let are : AreBlocks 4096 bs ws = subst (AreBlocks 4096 bs) c.self.view_is c.self.invariant.2 in
    let by : c.moved_at_once-by_wide.result ≡ min (moved_at_once level (take 4096 (drop at bs)) c.loop-at.moved) 65535 = c.moved_at_once-by_wide.ensures ∙ ap (λ (xs : List ℕ). min (moved_at_once level xs c.loop-at.moved) 65535) is in
    let count : length c.block-wide.result.now ≡ length (take 4096 (drop at bs)) = ap length is in
    record {
      same = block-end level 4096 at (length c.block-wide.result.now) bs ws c.loop-at.moved _ c.if-is_large.true are count by ∙ c.loop-at.invariant.same;
      fits = omega (arith, by);
      within = omega (arith, count, length-take 4096 (drop at bs), length-drop at bs, are.same_length, c.loop-at.invariant.within);
    }

pub loop-at-preserved-then-is_small : goal.loop-at-preserved-then-is_small
loop-at-preserved-then-is_small c =
    let level = c.args.level in let ws : List ℕ = c.args.self.now in let bs : List ℕ = c.self.inside.small.items in let at : ℕ = c.loop-at.at in
    let is : c.block-narrow.result.now ≡ take 64 (drop at bs) = c.block-narrow.ensures ∙ ap (λ (xs : List ℕ). take 64 (drop at xs)) c.deref-then-is_small.ensures.value in
    let are : AreBlocks 64 bs ws = subst (AreBlocks 64 bs) c.self.view_is c.self.invariant.1 in
    let by : c.moved_at_once-by_narrow.result ≡ min (moved_at_once level (take 64 (drop at bs)) c.loop-at.moved) 65535 = c.moved_at_once-by_narrow.ensures ∙ ap (λ (xs : List ℕ). min (moved_at_once level xs c.loop-at.moved) 65535) is in
    let count : length c.block-narrow.result.now ≡ length (take 64 (drop at bs)) = ap length is in
    record {
      same = block-end level 64 at (length c.block-narrow.result.now) bs ws c.loop-at.moved _ c.if-is_small.true are count by ∙ c.loop-at.invariant.same;
      fits = omega (arith, by);
      within = omega (arith, count, length-take 64 (drop at bs), length-drop at bs, are.same_length, c.loop-at.invariant.within);
    }

pub loop-at-preserved : goal.loop-at-preserved
loop-at-preserved c =
    let level = c.args.level in let made : List ℕ = c.self.inside.made.items in let ws : List ℕ = c.args.self.now in let at : ℕ = c.loop-at.at in let w : ℕ = c.index.result.now in
    let size : c.len.result ≡ length made = search rules in
    let whole : length made ≡ length ws = ap length c.self.view_is in
    let inside : at < length made = omega (arith, size, c.loop-at-test.true) in
    let read : w ≡ get_or ws at 0 = get_or_read made at w inside c.index.ensures 0 ∙ ap (λ (xs : List ℕ). get_or xs at 0) c.self.view_is in
    let first : drop at ws ≡ w ∷ drop (at + 1) ws = drop_more ws at 0 (omega (arith, inside, whole)) ∙ ap (λ (x : ℕ). x ∷ drop (at + 1) ws) (sym read) in
    record {
      same = moved-cut level (drop (at + 1) ws) (weight_with_gap level w c.loop-at.moved) c.weight_with_gap-by_gap.result c.weight_with_gap-by_gap.ensures.value ∙ sym (ap (λ (xs : List ℕ). min (moved level xs c.loop-at.moved) 65535) first) ∙ c.loop-at.invariant.same;
      fits = omega (arith, c.weight_with_gap-by_gap.ensures.value);
      within = omega (arith, inside, whole);
    }
