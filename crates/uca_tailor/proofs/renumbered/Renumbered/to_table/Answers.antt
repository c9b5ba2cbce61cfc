use Rattle.std.proofs.Common.{map, subst, sym, ap, ◌∙◌}
use Rattle.std.proofs.lemmas.Result.{IfOk-weaker}
use Rattle.std.specs.FinMap.{entries}
use Rattle.std.specs.List.{AllByRecursion}
use Rattle.uca_tailor.specs.Copy.{cut_entry, entered_item, Holds}
use Rattle.uca_tailor.specs.Renumbered.{all_entries, IsItem}
use Rattle.uca_tailor.proofs.CopyLemmas.{copied}
use Rattle.uca_tailor.proofs.renumbered.Renumbered.to_table.Goals as goal

pub merge-requires-clause-entered : goal.merge-requires-clause-entered
merge-requires-clause-entered c = subst (AllByRecursion (λ i. IsItem c.self.inside.moves i.1)) (sym (ap (map entered_item) c.deref.ensures.value ∙ c.in_ok-items.ensures)) c.self.invariant.entered

pub returns : goal.returns
returns c =
    let m = c.self.inside.moves in let t = c.self.inside.table.now in
    IfOk-weaker c.finish.result _ _ (λ u made.
    made
    ∙ copied m c.self.inside.items.entries t c.merge.new.merged c.self.invariant.fits (subst (λ items. Holds c.merge.new.merged (map cut_entry (all_entries m items (entries t.entries)))) (ap (map entered_item) c.deref.ensures.value ∙ c.in_ok-items.ensures) c.in_ok-merge.ensures)
    ∙ c.self.view_is) c.finish.ensures
