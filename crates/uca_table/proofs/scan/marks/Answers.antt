use Rattle.uca_table.proofs.Common.{◌∷◌, ℕ, List, ap, sym, ◌∙◌, join}
use Rattle.uca_table.proofs.MarkLemmas.{keys-more}
use Rattle.uca_table.proofs.scan.marks.Goals as goal

pub entries-preserved : goal.entries-preserved
entries-preserved c =
    keys-more _ _ _ _ c.args.c _ _ _ _ (c.in-Some-advance.ensures ∙ ap (λ (key : List ℕ). (key, c.in-Some-advance.elements.now) ∷ c.advance.new.self.coming) (sym c.key.ensures.value)) (c.and-marks.ensures ∙ ap (join c.entries.marks) c.said.ensures)
    c.entries.invariant
