use Rattle.uca_keys.proofs.Common.{◌≡◌, ◌+◌, ◌-◌, ◌≤◌, ◌++◌, drop, length, vec_len, vec_capacity, nodes_of}
use Rattle.uca_keys.proofs.nodes.push_nodes.Given as goal

abbrev pub invariant-loop-depth : goal.invariant-loop-depth
invariant-loop-depth l = record {
  within : l.depth ≤ length l.key;
  room : vec_len l.nodes + (length l.key - l.depth) ≤ vec_capacity l.nodes;
  same : l.nodes.items ++ nodes_of (drop l.depth l.key) l.depth l.start l.count ≡ l.initial.nodes.items ++ nodes_of (drop l.from l.key) l.from l.start l.count;
}
