use Rattle.std.proofs.Common.{List, ℕ, ◌++◌, map, take}
use Rattle.uca_weights.specs.declared.element.Element.{Element}
use Rattle.uca_tailor.specs.Copy.{Holds, entered_item, item_entries}
use Rattle.uca_tailor.proofs.merging.append_items.Given as goal

abbrev pub invariant-loop-at : goal.invariant-loop-at
invariant-loop-at l = (es : List (List ℕ × List Element)) → Holds l.fn.merged (item_entries l.moves (take l.from (map entered_item l.items)) ++ es) → Holds l.merged (item_entries l.moves (take l.at (map entered_item l.items)) ++ es)
