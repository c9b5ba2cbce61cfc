use Rattle.uca_table.proofs.Common.{◌∷◌, ℕ, List, ap, sym, ◌∙◌}
use Rattle.uca_table.proofs.MarkLemmas.{keys-more}
use Rattle.uca_table.proofs.marks.MarkTable.mark_keys.Goals as goal

pub entries-preserved : goal.entries-preserved
entries-preserved c = record {
  table = c.in_ok-mark_key.ensures.table;
  marks = λ p.
      keys-more _ _ _ _ p _ _ _ _ (c.in-Some.ensures ∙ ap (λ (key : List ℕ). (key, c.in-Some.elements.now) ∷ c.advance.new.self.coming) (sym c.key.ensures.value)) (c.in_ok-mark_key.ensures.marks p)
      (c.entries.invariant.marks p);
}
