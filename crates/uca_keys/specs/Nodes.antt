-- Keys in their order, each of which adds nodes to those of the one before it.
use Rattle.std.specs.Prelude.{◌≡◌, ℕ, ◌+◌, ◌==◌, ◌<◌, ◌≤◌, List, [], ◌∷◌, ◌++◌, length, take, drop, cond, Option, Some, None}
use Rattle.std.specs.declared.cmp.Ordering.TheVariants.{Less}
use Rattle.uca_weights.specs.declared.element.Element.{Element}
use Rattle.uca_weights.specs.declared.limits.TheConstants.{MAX_KEY, MAX_ELEMENTS}
use Rattle.uca_model.specs.Table.{key_cmp}
use Rattle.uca_keys.specs.declared.node.Node.{Node}

-- the path of a node: this many code points of the path before it, and its own
abbrev pub path_after : List ℕ → Node → List ℕ
path_after p n = take n.depth p ++ n.point ∷ []

-- the paths of nodes in their order
abbrev pub paths_after : List ℕ → List Node → List (List ℕ)
paths_after p [] = []
paths_after p (n ∷ ns) = path_after p n ∷ paths_after (path_after p n) ns

-- the path of the last node
abbrev pub last_path : List ℕ → List Node → List ℕ
last_path p [] = p
last_path p (n ∷ ns) = last_path (path_after p n) ns

-- the elements of the key that ends at a node
abbrev pub elements_in : List Element → Node → List Element
elements_in es n = take n.count (drop n.start es)

-- the same, and nothing where no key ends
abbrev pub own_of : List Element → Node → Option (List Element)
own_of es n = cond (n.count == 0) None (Some (elements_in es n))

-- an entry for each node at which a key ends
abbrev pub entries_after : List Element → List ℕ → List Node → List (List ℕ × List Element)
entries_after es p [] = []
entries_after es p (n ∷ ns) = cond (n.count == 0) (entries_after es (path_after p n) ns) ((path_after p n, elements_in es n) ∷ entries_after es (path_after p n) ns)

-- a node may follow a path that is less than its own
pub record IsNext (es : List Element) (p : List ℕ) (n : Node) : Type 0 where
  pub from : n.depth ≤ length p
  pub short : n.depth < MAX_KEY
  pub greater : key_cmp p (path_after p n) ≡ Less
  pub within : n.start + n.count ≤ length es
  pub few : n.count ≤ MAX_ELEMENTS

-- each node may follow the one before it
abbrev pub AreNext : List Element → List ℕ → List Node → Type 0
AreNext es p [] = Unit {0}
AreNext es p (n ∷ ns) = IsNext es p n × AreNext es (path_after p n) ns

-- how many code points come before the first node
abbrev pub first_depth : List Node → ℕ
first_depth [] = 0
first_depth (n ∷ ns) = n.depth

-- a key ends at each node, or the next one goes on from it
abbrev pub AreFull : List Node → Type 0
AreFull [] = Unit {0}
AreFull (n ∷ ns) = (n.count ≡ 0 → first_depth ns ≡ n.depth + 1) × AreFull ns

-- the nodes of a key from a place on, the last of which has its elements
abbrev pub nodes_of : List ℕ → ℕ → ℕ → ℕ → List Node
nodes_of [] depth start count = []
nodes_of (x ∷ []) depth start count = record { point = x; start = start; count = count; depth = depth } ∷ []
nodes_of (x ∷ y ∷ key) depth start count = record { point = x; start = start; count = 0; depth = depth } ∷ nodes_of (y ∷ key) (depth + 1) start count
