use Rattle.uca_key.proofs.Common.{◌≡◌, ◌<◌, List, take, drop, length, ℕ, [], ◌∷◌, ◌++◌, ◌*◌, refl, sym, ap, subst, ◌∙◌, arith, append-nil, drop_all, take_all, Element, level_weights, common_weight, runs_after, packed_level, AreMarked, bytes_left, all_own}
use Rattle.uca_key.proofs.MaskLemmas.{blank, run-counted}
use Rattle.uca_key.proofs.PlacingLemmas.{IsPutting-start, IsPutting-more, IsPutting-ends, PutsAt-fitted}
use Rattle.uca_key.proofs.runs.put_whole.Goals as goal

pub returns-then-not-has_room_for_end : goal.returns-then-not-has_room_for_end
returns-then-not-has_room_for_end c =
    let level = c.args.level in let whole = packed_level (all_own c.args.v c.args.elements.now) level in
    let runs : List ℕ → List ℕ = runs_after (common_weight level) 0 in
    let weights = all_own c.args.v c.args.elements.now in
    let begun : runs (level_weights level (weights ++ [])) ≡ whole =
    ap (λ ws. runs (level_weights level ws)) (append-nil weights) in
    let put = c.put_elements.ensures.bytes c.args.at c.args.out.now whole [] (IsPutting-start _ _ _ _ c.ranges.at.fits begun) in
    let left = bytes_left level c.put_elements.result [] in
    IsPutting-ends _ _ _ _ _ _ (IsPutting-more _ _ _ _ _ _ put _ _ left [] c.requires.size (sym (append-nil left)) (c.put_end.ensures level)) refl

pub returns-then-is_one_run : goal.returns-then-is_one_run
returns-then-is_one_run c =
    let v = c.args.v in let level = c.args.level in let es : List Element = c.args.elements.now in let n : ℕ = length es in
    let runs : ℕ → List Element → List ℕ = λ run left. runs_after (common_weight level) run (level_weights level (all_own v left) ++ []) in
    let few : n < 62 = c.is_one_run.ensures.few c.if-is_one_run.true in
    let fits = c.has_room_for_end.ensures c.if-not-has_room_for_end.false in
    let marked : AreMarked v level c.args.marked es = subst (AreMarked v level c.args.marked) (take_all 64 es (omega (arith, few))) c.requires.marked in
    let none : drop n es ≡ [] = drop_all n es (omega arith) in
    let counted = run-counted v level 0 c.args.marked n es blank [] marked (omega (arith, few)) (omega arith) (c.is_one_run.ensures.zeros c.if-is_one_run.true) in
    let k : ℕ = c.count_weights.result in
    let whole : (2 * k) ∷ [] ≡ packed_level (all_own v es) level = sym (ap (runs k) none) ∙ ap (λ (r : ℕ). runs r (drop n es)) (omega (arith, c.count_weights.ensures)) ∙ counted ∙ ap (λ (ws : List ℕ). runs_after (common_weight level) 0 ws) (append-nil (level_weights level (all_own v es))) in
    let within : c.args.at < length c.args.out.now = omega (arith, fits, c.requires.size) in
    PutsAt-fitted _ _ (2 * k) _ _ _ refl c.requires.size within (record { later = omega arith; rest = refl }) (ap (λ bytes. take c.args.at c.args.out.now ++ bytes) whole)

pub returns : goal.returns
returns c =
    let v = c.args.v in let level = c.args.level in let packed = c.pack_whole-packed.ensures in
    let left : List ℕ = level_weights level (all_own v c.args.elements.now) in
    let whole : runs_after (common_weight level) 0 (left ++ []) ≡ packed_level (all_own v c.args.elements.now) level = ap (runs_after (common_weight level) 0) (append-nil left) in
    let within : c.pack_whole-packed.result.at < length c.args.out.now = omega (arith, c.has_room_for_end.ensures c.if-not-has_room_for_end.false, packed.within) in
    PutsAt-fitted _ _ (2 * c.pack_whole-packed.result.run) _ _ _ c.pack_whole-packed.auto.key c.requires.size within packed.stays (packed.bytes [] ∙ ap (λ bytes. take c.args.at c.args.out.now ++ bytes) whole)
