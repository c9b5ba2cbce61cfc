use Rattle.uca_keys.proofs.Common.{rules}
use Rattle.uca_keys.proofs.FindLemmas.{leads_nowhere}
use Rattle.uca_keys.proofs.trie.Trie.is_leaf.Goals as goal

pub returns : goal.returns
returns c = λ leaf. leads_nowhere c.args.self.now c.args.node.number c.children_of.result.now c.children_of.ensures (search rules)
