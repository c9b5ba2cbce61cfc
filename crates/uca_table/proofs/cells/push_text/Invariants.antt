use Rattle.uca_table.proofs.Common.{◌≡◌, ◌++◌, length, nfd, elements}
use Rattle.uca_table.proofs.cells.push_text.Given as goal

abbrev pub invariant-characters : goal.invariant-characters
invariant-characters l = l.out.items ++ elements l.t (nfd l.rest) ≡ l.fn.out.items ++ elements l.t (nfd l.text)

abbrev pub decreases-characters : goal.decreases-characters
decreases-characters l = length l.rest
