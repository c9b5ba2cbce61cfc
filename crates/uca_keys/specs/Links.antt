-- The children of the nodes of a trie.
use Rattle.std.specs.Prelude.{◌≡◌, ℕ, zero, suc, ◌+◌, ◌-◌, ◌==◌, ◌<◌, ◌≤◌, Bool, true, false, nat_lt, List, [], ◌∷◌, ◌++◌, length, drop, get_or, cond, Option, Some, None, IfSome, IfNone}
use Rattle.std.specs.List.{list_any}
use Rattle.std.specs.List.Sorted.{IsNonDecreasingBy}
use Rattle.uca_keys.specs.declared.node.Node.{Node}
use Rattle.uca_keys.specs.declared.trie.Child.{Child}
use Rattle.uca_keys.specs.declared.trie.NodeNumber.{NodeNumber}
use Rattle.uca_keys.specs.Fronts.{begins_entry}
use Rattle.uca_keys.specs.Paths.{TrieState, entries_of, path_at}

-- how many nodes have at least this many code points before them, up to the first that has fewer
abbrev pub span_len : ℕ → List Node → ℕ
span_len depth [] = 0
span_len depth (n ∷ ns) = cond (nat_lt n.depth depth) 0 (suc (span_len depth ns))

-- the child that a node is
abbrev pub child_of : Node → ℕ → Child
child_of n number = record { point = n.point; node = record { number = number } }

-- those among them that have exactly this many; the first of all nodes has this number
abbrev pub kids_from : ℕ → ℕ → List Node → List Child
kids_from depth number [] = []
kids_from depth number (n ∷ ns) =
    cond (nat_lt n.depth depth) []
    (cond (n.depth == depth) (child_of n number ∷ kids_from depth (number + 1) ns) (kids_from depth (number + 1) ns))

-- how many code points the children of a number have before them, where those of the number before the nodes have this many
abbrev pub depth_below : ℕ → List Node → ℕ → ℕ
depth_below depth ns zero = depth
depth_below depth [] (suc i) = depth
depth_below depth (n ∷ ns) (suc i) = depth_below (n.depth + 1) ns i

-- the children of the node of a number
abbrev pub kids_of : List Node → ℕ → List Child
kids_of ns number = kids_from (depth_below 0 ns number) (number + 1) (drop number ns)

-- the place of the first node after it that does not begin as it does
abbrev pub end_of : List Node → ℕ → ℕ
end_of ns number = number + span_len (depth_below 0 ns number) (drop number ns)

-- the values of a function from 0 on
pub record AreValues (f : ℕ → ℕ) (values : List ℕ) : Type 0 where
  pub each : (i : ℕ) → i < length values → get_or values i 0 ≡ f i

-- where the nodes end that begin as those of some numbers do, from the last number back
abbrev pub AreEnds : List Node → List ℕ → Type 0
AreEnds ns ends = AreValues (λ i. end_of ns (length ns - i)) ends

-- the children of this many numbers, from the last one back
abbrev pub kids_back : List Node → ℕ → List Child
kids_back ns zero = []
kids_back ns (suc i) = kids_back ns i ++ kids_of ns (length ns - i)

-- the children of all numbers, where they begin and where the last of them end
pub record AreLinked (ns : List Node) (cs : List Child) (starts : List ℕ) : Type 0 where
  pub kids : cs ≡ kids_back ns (suc (length ns))
  pub size : length starts ≡ length ns + 2
  pub begun : AreValues (λ i. length (kids_back ns i)) starts

-- some child has a code point
abbrev pub has_point : List Child → ℕ → Bool
has_point cs x = list_any (λ c. c.point == x) cs

-- a code point leads from a number to a node, or no key goes on with it
pub record LeadsTo (s : TrieState) (number x : ℕ) (found : Option NodeNumber) : Type 0 where
  pub within : IfSome found (λ child. child.number ≤ length s.nodes)
  pub path : IfSome found (λ child. path_at s child.number ≡ path_at s number ++ x ∷ [])
  pub some : IfSome found (λ _. begins_entry (entries_of s) (path_at s number ++ x ∷ []) ≡ true)
  pub none : IfNone found (begins_entry (entries_of s) (path_at s number ++ x ∷ []) ≡ false)

-- what a look-up needs to know of the children of a number
pub record AreKids (s : TrieState) (number : ℕ) (cs : List Child) : Type 0 where
  pub leads : (k : ℕ) (d : Child) → k < length cs → LeadsTo s number (get_or cs k d).point (Some (get_or cs k d).node)
  pub rise : IsNonDecreasingBy (λ (c : Child). c.point) cs
  pub none : (x : ℕ) → has_point cs x ≡ false → LeadsTo s number x None
