use Rattle.uca_keys.proofs.Common.{◌≡◌, ◌≤◌, [], length, take, MAX_KEY, AreFull, AreNext, entries_after}
use Rattle.uca_keys.proofs.cursor.Cursor.advance.Given as goal

abbrev pub invariant-loop-node : goal.invariant-loop-node
invariant-loop-node l = record {
  short : l.self-inside.len ≤ MAX_KEY;
  next : AreNext l.self-inside.elements.now (take l.self-inside.len l.self-inside.path) l.self-inside.nodes.now;
  full : AreFull l.self-inside.nodes.now;
  same : entries_after l.initial.self-inside.elements.now (take l.initial.self-inside.len l.initial.self-inside.path) l.initial.self-inside.nodes.now ≡ entries_after l.self-inside.elements.now (take l.self-inside.len l.self-inside.path) l.self-inside.nodes.now;
  kept : l.initial.self-inside.nodes.now ≡ [] → (l.self-inside.nodes.now ≡ []) × (take l.self-inside.len l.self-inside.path ≡ take l.initial.self-inside.len l.initial.self-inside.path);
}

abbrev pub decreases-loop-node : goal.decreases-loop-node
decreases-loop-node l = length l.self-inside.nodes.now
