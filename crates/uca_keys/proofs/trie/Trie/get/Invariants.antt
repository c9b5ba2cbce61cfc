use Rattle.uca_keys.proofs.Common.{◌≡◌, ◌≤◌, length, take, path_at}
use Rattle.uca_keys.proofs.trie.Trie.get.Given as goal

abbrev pub invariant-loop-c : goal.invariant-loop-c
invariant-loop-c l = record {
  within : l.node.number ≤ length l.self.nodes;
  path : path_at l.self l.node.number ≡ take l.c-index l.key;
}
