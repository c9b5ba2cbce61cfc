use Rattle.uca_table.proofs.Common.{ℕ, ◌<◌, slice_index_or, Element, IsElement}
use Rattle.uca_table.proofs.builder.show_elements.Given as goal

abbrev pub invariant-loop-element : goal.invariant-loop-element
invariant-loop-element l = (k : ℕ) (d : Element) → k < l.element-index → IsElement (slice_index_or l.elements k d)
