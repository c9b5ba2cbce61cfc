use Rattle.uca_keys.proofs.LinkLemmas.{AreSoFar}
use Rattle.uca_keys.proofs.trie.links.Given as goal

abbrev pub invariant-loop-number : goal.invariant-loop-number
invariant-loop-number l = AreSoFar l.nodes l.children.items l.starts.items l.ends.items l.end l.number

abbrev pub decreases-loop-number : goal.decreases-loop-number
decreases-loop-number l = l.number
