use Rattle.std.proofs.Common.{take}
use Rattle.std.specs.List.{AllByRecursion}
use Rattle.uca_model.specs.Table.{IsElement}
use Rattle.uca_tailor.proofs.renumbered.show_elements.Given as goal

abbrev pub invariant-loop-element : goal.invariant-loop-element
invariant-loop-element l = AllByRecursion IsElement (take l.element-index l.elements)
