-- What a trie shows: its keys, and the paths of its nodes.
use Rattle.std.specs.Prelude.{ℕ, List, [], ◌∷◌, get_or}
use Rattle.uca_weights.specs.declared.element.Element.{Element}
use Rattle.uca_keys.specs.declared.node.Node.{Node}
use Rattle.uca_keys.specs.Nodes.{paths_after, entries_after}

pub record TrieState : Type 0 where
  pub nodes : List Node
  pub elements : List Element

-- the keys with their elements
abbrev pub entries_of : TrieState → List (List ℕ × List Element)
entries_of s = entries_after s.elements [] s.nodes

-- the paths of all nodes by their numbers, the root first
abbrev pub paths_of : TrieState → List (List ℕ)
paths_of s = [] ∷ paths_after [] s.nodes

-- the code points that lead to a node
abbrev pub path_at : TrieState → ℕ → List ℕ
path_at s number = get_or (paths_of s) number []
