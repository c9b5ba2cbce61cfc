-- Each item is placed: what a relation does to its anchor.
use Rattle.std.proofs.Common.{◌≡◌, ℕ, ◌+◌, List, [], ◌∷◌, ◌++◌, map, Some, false, sym, ap, subst, ◌∙◌}
use Rattle.std.specs.List.{list_any}
use Rattle.uca_weights.specs.declared.element.Element.{Element}
use Rattle.uca_weights.specs.Element.{weight}
use Rattle.uca_model.specs.Table.{ElementTable, AreRanges, elements_at}
use Rattle.uca_model.specs.ImplicitWeights.{implicit}
use Rattle.uca_model.specs.CollationElements.{elements}
use Rattle.uca_model.specs.WellFormed.{skips_a_level}
use Rattle.uca_model.specs.Rules.{Relation}
use Rattle.uca_model.specs.Gap.{with_gap, table_with_gap}
use Rattle.uca_model.specs.Tailoring.{raised, Related}
use Rattle.uca_tailor.specs.TailoringLaws.{weights_at, Lacks, IsPlaced, EachItemIsPlaced}
use Rattle.uca_tailor.proofs.Levels.{IsLevel, is_below, places_at, weight-raised}
use Rattle.uca_tailor.proofs.ChangedTables.{elements_at-here, elements_at-other}
use Rattle.uca_tailor.proofs.RelationFacts.{IsRelated, is_related}
use Rattle.uca_tailor.proofs.AnchorWeights.{all_full, placed_below, placed_anchor, placed_base}
use Rattle.uca_tailor.proofs.RaisedWeight.{is_below_top, lacks_shifted, lacks_implicit, lacks_table, LacksAll, no_key, lacks_text}

pub is_placed : (m : ℕ) (t : ElementTable) (anchor : List Element) (r : Relation) (next : Related) → IsLevel m → AreRanges t.ranges → list_any skips_a_level anchor ≡ false → (h : IsRelated m t anchor r next)
    → IsPlaced m anchor r next (weights_at m h.how.split.before) (weight m h.how.split.last)
is_placed m t anchor r next l ranges full h =
    let a = h.how.split in
    let w = weight m a.last in
    let place = h.entered.place in
    let room = is_below_top m t anchor place h.how in
    let base : next.anchor ≡ map (with_gap m w) a.before ++ raised m a.last ∷ [] = h.entered.base ∙ ap (λ p. p.base) h.how.are in
    let moved : place.table ≡ table_with_gap m w t = ap (λ p. p.table) h.how.are in
    let wholly : LacksAll m (w + 1) (table_with_gap m w t) no_key = record { entries = λ key es other e. lacks_table m w t key es l room e; implicit_ones = λ c. lacks_implicit m w t.ranges t.ideographs c l room h.how.free.large ranges } in
    record {
      old = placed_anchor m anchor a h.how.is_split;
      at = ap (weights_at m) base ∙ placed_base m w a l;
      below = λ j low less. ap (weights_at j) base ∙ placed_below j m w anchor a h.how.is_split (is_below j m l low less) (all_full anchor h.how.free.low full);
      before = map (with_gap m w) a.before;
      last = raised m a.last;
      expansion = elements place.table r.expansion;
      base = base;
      item = ap (λ u. elements_at u r.item) h.entered.table ∙ elements_at-here place.table r.item _ ∙ ap (λ b. Some (b ++ elements place.table r.expansion)) (sym h.entered.base);
      raised = weight-raised m a.last l;
      none_before = lacks_shifted m w a.before l room;
      none_in_expansion = subst (λ u. Lacks m (w + 1) (elements u r.expansion)) (sym moved) (lacks_text m (w + 1) (table_with_gap m w t) r.expansion wholly);
      none_in_others = λ key es other e. lacks_table m w t key es l room (ap (λ u. elements_at u key) (sym moved) ∙ sym (elements_at-other place.table r.item _ key other) ∙ ap (λ u. elements_at u key) (sym h.entered.table) ∙ e);
      none_implicit = λ c. subst (λ u. Lacks m (w + 1) (implicit u c)) (sym h.entered.table) (subst (λ u. Lacks m (w + 1) (implicit u c)) (sym moved) (wholly.implicit_ones c));
    }

pub each_placed : EachItemIsPlaced
each_placed level t anchor r next table is some full e =
    let h = is_related level t anchor r next is some e in
    (weights_at level h.how.split.before, weight level h.how.split.last, is_placed level t anchor r next (places_at level r.op is some).level_is table.ranges full h)
