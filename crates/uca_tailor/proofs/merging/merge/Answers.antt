use Rattle.std.proofs.Common.{◌≤◌, ◌≡◌, ◌++◌, length, map, ap, ◌∙◌, arith}
use Rattle.std.proofs.lemmas.List.{length-map}
use Rattle.std.specs.FinMap.{entries}
use Rattle.uca_table.proofs.BuilderLemmas.{on_ok}
use Rattle.uca_tailor.specs.Copy.{entered_item}
use Rattle.uca_tailor.specs.Moves.{start, moved_element, cut}
use Rattle.uca_tailor.proofs.CopyLemmas.{Merges-none, Merges-items, Merges-entry, Merges-all}
use Rattle.uca_tailor.proofs.merging.merge.Goals as goal

pub loop-key-init : goal.loop-key-init
loop-key-init c = record {
  can = tt;
  finite = tt;
  within = omega arith;
  merges = Merges-none c.args.merged.now c.args.moves.now (map entered_item c.args.items.now) (entries c.args.t.now.entries) c.into_iter-key-iterator.result c.requires.none (c.into_iter-key-iterator.ensures.into_iter_gives ∙ c.entries-key-items.ensures.value);
}

pub loop-key-preserved : goal.loop-key-preserved
loop-key-preserved c =
    let m = c.args.moves.now in let items = map entered_item c.args.items.now in let all = entries c.args.t.now.entries in
    record {
      can = tt;
      finite = tt;
      within = c.end_of-to.ensures.within;
      merges = Merges-entry c.append_items.new.merged c.append_or_leave.new.merged m items c.end_of-to.result all c.next.new.self c.loop-key.key-iterator (c.in-Some.key.items, c.in-Some.elements.now) c.as_slice-in-loop-key.result.now c.deref.result.now c.in-Some.ensures.steps c.as_slice-in-loop-key.ensures.value
          (c.deref.ensures.value ∙ c.in_ok-push_moved.ensures ∙ ap (λ xs. xs ++ map cut (map (moved_element m start) c.in-Some.elements.now)) c.clear.ensures.items) c.in_ok-append_or_leave.ensures
          (Merges-items c.loop-key.merged c.append_items.new.merged m items c.loop-key.at c.end_of-to.result all c.loop-key.key-iterator c.in_ok-append_items.ensures c.loop-key.invariant.merges);
    }

pub returns : goal.returns
returns c =
    let m = c.args.moves.now in let items = map entered_item c.args.items.now in let all = entries c.args.t.now.entries in
    let past : length items ≤ length c.args.items.now = (let n : length items ≡ length c.args.items.now = length-map c.args.items.now entered_item in omega arith) in
    on_ok _ _ c.append_items-2.result
    (λ more. Merges-all c.append_items-2.new.merged m items (length c.args.items.now) all c.loop-key.key-iterator c.in-None.ensures.steps.0 past (Merges-items c.loop-key.merged c.append_items-2.new.merged m items c.loop-key.at (length c.args.items.now) all c.loop-key.key-iterator more c.loop-key.invariant.merges))
    c.append_items-2.ensures
