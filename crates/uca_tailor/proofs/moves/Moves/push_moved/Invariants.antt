use Rattle.std.proofs.Common.{◌≡◌, ◌++◌, drop, map}
use Rattle.uca_tailor.specs.Moves.{moved_element, cut}
use Rattle.uca_tailor.proofs.moves.Moves.push_moved.Given as goal

abbrev pub invariant-loop-element : goal.invariant-loop-element
invariant-loop-element l = l.out.items ++ map cut (map (moved_element l.self l.after) (drop l.element-index l.elements)) ≡ l.fn.out.items ++ map cut (map (moved_element l.self l.after) l.elements)
