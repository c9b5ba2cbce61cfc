use Rattle.std.proofs.Common.{◌≡◌, ◌++◌, map, take}
use Rattle.uca_handle.specs.Matches.{element_form}
use Rattle.uca_handle.proofs.matches.push_forms.Given as goal

abbrev pub invariant-loop-element : goal.invariant-loop-element
invariant-loop-element l = l.out.items ≡ l.fn.out.items ++ map element_form (take l.element-index l.elements)
