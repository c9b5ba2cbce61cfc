use Rattle.uca_keys.proofs.Common.{◌≡◌, ◌+◌, ◌-◌, ◌≤◌, ◌++◌, length, drop, kids_from, span_len, first_depth}
use Rattle.uca_keys.proofs.trie.push_children.Given as goal

abbrev pub invariant-loop-at : goal.invariant-loop-at
invariant-loop-at l = record {
  from : l.first ≤ l.at;
  within : l.at ≤ length l.nodes;
  top : first_depth (drop l.at l.nodes) ≤ l.depth;
  done : l.children.items ++ kids_from l.depth (l.at + 1) (drop l.at l.nodes) ≡ l.initial.children.items ++ kids_from l.depth (l.first + 1) (drop l.first l.nodes);
  span : l.at + span_len l.depth (drop l.at l.nodes) ≡ l.first + span_len l.depth (drop l.first l.nodes);
}

abbrev pub decreases-loop-at : goal.decreases-loop-at
decreases-loop-at l = length l.nodes - l.at
