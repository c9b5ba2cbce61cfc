use Rattle.std.proofs.Common.{◌≡◌, ◌+◌, ℕ, length, ap, sym, subst, ◌∙◌, arith}
use Rattle.std.specs.FinMap.{entries}
use Rattle.std.specs.Vec.{with_items}
use Rattle.uca_tailor.specs.Copy.{item_entries}
use Rattle.uca_tailor.specs.Counting.{count_shown}
use Rattle.uca_tailor.specs.Counts.{AreAllCounts, AreCapped, count_in}
use Rattle.uca_tailor.specs.Renumbered.{renumbered}
use Rattle.uca_tailor.proofs.CountLemmas.{whole-items}
use Rattle.uca_tailor.proofs.CountedEntries.{AreCapped-same, count-renumbered}
use Rattle.uca_tailor.proofs.counting.counts_of.Goals as goal

pub returns : goal.returns
returns c =
    let level : ℕ = c.args.level in let m = c.args.moves.now in let items = c.args.items.now.entries in let t = c.args.t.now in
    let v = c.in_ok-counts.counts in
    let size : length c.add_items.new.counts ≡ length v.items = c.add_items.ensures.size ∙ ap length c.deref_mut.ensures.value in
    let once : (with_items v c.add_items.new.counts).items ≡ c.add_items.new.counts = whole-items v c.add_items.new.counts size in
    let of_items = c.add_items.ensures.capped (λ _. 0) (subst (λ xs. AreCapped xs (λ _. 0)) (sym c.deref_mut.ensures.value) c.in_ok-counts.ensures.none) in
    let given : c.deref_mut-2.result.now ≡ c.add_items.new.counts = c.deref_mut-2.ensures.value ∙ once in
    let whole : length c.add_entries.new.counts ≡ length (with_items v c.add_items.new.counts).items = c.add_entries.ensures.size ∙ ap length c.deref_mut-2.ensures.value in
    let twice : (with_items (with_items v c.add_items.new.counts) c.add_entries.new.counts).items ≡ c.add_entries.new.counts = whole-items (with_items v c.add_items.new.counts) c.add_entries.new.counts whole in
    let of_all = c.add_entries.ensures.capped (λ x. 0 + count_in level x (item_entries m items)) (subst (λ xs. AreCapped xs (λ x. 0 + count_in level x (item_entries m items))) (sym given) of_items) in
    subst (λ xs. AreAllCounts level xs (renumbered m items t)) (sym twice) (record {
      size = whole ∙ ap length once ∙ size ∙ c.in_ok-counts.ensures.size;
      capped = AreCapped-same c.add_entries.new.counts (λ x. 0 + count_in level x (item_entries m items) + count_shown level x m items (entries t.entries)) (λ x. count_in level x (entries (renumbered m items t).entries))
          (λ x. let e = count-renumbered level x m items t c.requires.fits c.add_items.ensures.order in omega (arith, e)) of_all;
    })
