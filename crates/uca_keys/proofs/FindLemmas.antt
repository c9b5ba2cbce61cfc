-- What look-ups find in a trie.
use Rattle.uca_keys.proofs.Common.{◌≡◌, ℕ, zero, suc, ◌+◌, ◌-◌, ◌≤◌, ◌<◌, true, false, eqb, List, [], ◌∷◌, ◌++◌, length, drop, get_or, Some, None, Err, refl, sym, ap, subst, ◌∙◌, arith, inl, inr, ne_eqb, get_or-drop, length-drop, take_all, le_refl, cases_Bool, cases_lt, cases_order, cond_both, false_from_ne_true, or_parts, true≢false, nat_tests, ranked, drop_more, length_push, Less, IsBinarySearchResult, IsNonDecreasingBy, nat_cmp, ordering_index, find, Element, key_cmp, Node, Child, is_front, begins_entry, depth_below, has_point, kids_from, kids_of, AreKids, LeadsTo, path_after, paths_after, entries_after, own_of, AreNext, AreFull, TrieState, entries_of, path_at, paths_of, common_steps}
use Rattle.std.proofs.lemmas.List.Recursion.{or_from_places}
use Rattle.uca_keys.proofs.ChildLemmas.{AreKidsFrom, has_kid, kid_at, kids_rise, kids_sound}
use Rattle.uca_keys.proofs.NodeLemmas.{begins_at, find_at, find_none, path_long, paths_rise, unbegun}
use Rattle.uca_keys.proofs.PathLemmas.{below_longer, chain, front_short, never_less}
use Rattle.uca_model.proofs.TableLemmas.{tied_keys}

length-paths : (p : List ℕ) (ns : List Node) → length (paths_after p ns) ≡ length ns
length-paths p [] = refl
length-paths p (n ∷ ns) = ap suc (length-paths (path_after p n) ns)

-- the root
pub find_root : (s : TrieState) → AreNext s.elements [] s.nodes → find key_cmp [] (entries_of s) ≡ None
find_root s next = find_none s.elements [] [] s.nodes (λ k h. h) next

-- the nodes after a number, and their paths
pub record IsAt (es : List Element) (p : List ℕ) (ns : List Node) (i : ℕ) : Type 0 where
  pub next : AreNext es (get_or (p ∷ paths_after p ns) i []) (drop i ns)
  pub paths : drop (suc i) (p ∷ paths_after p ns) ≡ paths_after (get_or (p ∷ paths_after p ns) i []) (drop i ns)
  pub depth : depth_below (length p) ns i ≡ length (get_or (p ∷ paths_after p ns) i [])

at_number : (es : List Element) (p : List ℕ) (ns : List Node) (i : ℕ) → AreNext es p ns → i ≤ length ns → IsAt es p ns i
at_number es p ns zero next within = record { next = next; paths = refl; depth = refl }
at_number es p [] (suc i) next within = absurd (omega arith)
at_number es p (n ∷ ns) (suc i) next within =
    let at = at_number es (path_after p n) ns i next.1 (omega arith) in
    record { next = at.next; paths = at.paths; depth = ap (λ d. depth_below d ns i) (sym (path_long p n next.0.from)) ∙ at.depth }

-- a greater path is that of a higher number
place_above : (es : List Element) (p : List ℕ) (ns : List Node) (i j : ℕ) → AreNext es p ns → i ≤ length ns → key_cmp (get_or (p ∷ paths_after p ns) i []) (get_or (p ∷ paths_after p ns) j []) ≡ Less → i < j
place_above es p ns i j next within less = elim (cases_order i j) [
  | inl same ↦ absurd (never_less (get_or (p ∷ paths_after p ns) j []) (subst (λ k. key_cmp (get_or (p ∷ paths_after p ns) k []) (get_or (p ∷ paths_after p ns) j []) ≡ Less) same less))
  | inr (inl below) ↦ below
  | inr (inr above) ↦ absurd (never_less (get_or (p ∷ paths_after p ns) i []) (chain (get_or (p ∷ paths_after p ns) i []) (get_or (p ∷ paths_after p ns) j []) (get_or (p ∷ paths_after p ns) i []) less (paths_rise es p ns j i next above within)))
]

path_begins : (s : TrieState) (number : ℕ) (w : List ℕ) → AreNext s.elements [] s.nodes → AreFull s.nodes → number ≤ length s.nodes → 0 < length w → path_at s number ≡ w → begins_entry (entries_of s) w ≡ true
path_begins s zero w next full within some is = let none : 0 ≡ length w = ap length is in absurd (omega arith)
path_begins s (suc i) w next full within some is = ap (begins_entry (entries_of s)) (sym is) ∙ begins_at s.elements [] s.nodes i next full (omega arith)

-- no key goes on with a code point that no child has
none_without : (s : TrieState) (number x : ℕ) → AreNext s.elements [] s.nodes → number ≤ length s.nodes → has_point (kids_of s.nodes number) x ≡ false → begins_entry (entries_of s) (path_at s number ++ x ∷ []) ≡ false
none_without s number x next within lacks =
    let ns = s.nodes in let p = path_at s number in let w = p ++ x ∷ [] in
    let at = at_number s.elements [] ns number next within in
    let own : is_front w [] ≡ false = false_from_ne_true (is_front w []) (λ h. absurd (omega (arith, front_short w [] h, length_push p x))) in
    unbegun s.elements w [] ns next own (λ m inside is.
    let past : number < suc m = place_above s.elements [] ns number (suc m) next within (ap (key_cmp p) is ∙ below_longer p x) in
    let place : suc number + (m - number) ≡ suc m = omega arith in
    let there : get_or (paths_after p (drop number ns)) (m - number) [] ≡ w = ap (λ l. get_or l (m - number) []) (sym at.paths) ∙ get_or-drop (suc number) (paths_of s) (m - number) [] ∙ ap (λ k. get_or (paths_of s) k []) place ∙ is in
    let kid : has_point (kids_from (length p) (number + 1) (drop number ns)) x ≡ true = has_kid s.elements p p x (length p) (number + 1) (drop number ns) (m - number) at.next (λ k above. above) refl (omega (arith, length-drop number ns)) there in
    true≢false (sym kid ∙ ap (λ d. has_point (kids_from d (number + 1) (drop number ns)) x) (sym at.depth) ∙ lacks))

-- what is known of the children of a number
pub kids_are : (s : TrieState) (cs : List Child) (number : ℕ) → AreNext s.elements [] s.nodes → AreFull s.nodes → number ≤ length s.nodes → cs ≡ kids_of s.nodes number → AreKids s number cs
kids_are s cs number next full within is =
    let ns = s.nodes in let p = path_at s number in
    let at = at_number s.elements [] ns number next within in
    let one : number + 1 ≡ suc number = omega arith in
    let sound : AreKidsFrom (paths_of s) p 0 (kids_from (length p) (number + 1) (drop number ns)) =
    kids_sound s.elements (paths_of s) p p 0 (length p) (number + 1) (drop number ns) at.next (take_all (length p) p (le_refl (length p))) (le_refl (length p)) (ap (λ k. drop k (paths_of s)) one ∙ at.paths) (omega arith) in
    let all : AreKidsFrom (paths_of s) p 0 cs = subst (AreKidsFrom (paths_of s) p 0) (sym (is ∙ ap (λ d. kids_from d (number + 1) (drop number ns)) at.depth)) sound in
    record {
      leads = λ k d inside.
          let kid = (kid_at (paths_of s) p 0 cs k d all inside).0 in
          let child : (get_or cs k d).node.number ≤ length ns = omega (arith, kid.within, length-paths [] ns) in
          record { within = child; path = kid.path; none = tt; some = path_begins s (get_or cs k d).node.number (p ++ (get_or cs k d).point ∷ []) next full child (omega (arith, length_push p (get_or cs k d).point)) kid.path };
      rise = kids_rise (paths_of s) p 0 cs (λ i j less inside. paths_rise s.elements [] ns i j next less (omega (arith, inside, length-paths [] ns))) all;
      none = λ x lacks. record { within = tt; path = tt; some = tt; none = none_without s number x next within (ap (λ l. has_point l x) (sym is) ∙ lacks) };
    }

-- the child at a place, and no child
pub leads_at : (s : TrieState) (number x k : ℕ) (d : Child) (cs : List Child) → AreKids s number cs → k < length cs → (get_or cs k d).point ≡ x → LeadsTo s number x (Some (get_or cs k d).node)
leads_at s number x k d cs kids inside is = subst (λ y. LeadsTo s number y (Some (get_or cs k d).node)) is (kids.leads k d inside)

pub leads_nowhere : (s : TrieState) (number : ℕ) (cs : List Child) → AreKids s number cs → length cs ≡ 0 → (x : ℕ) → begins_entry (entries_of s) (path_at s number ++ x ∷ []) ≡ false
leads_nowhere s number [] kids none x = (kids.none x refl).none
leads_nowhere s number (c ∷ cs) kids none x = absurd (omega arith)

-- what is known of the node of a number
pub record IsNode (s : TrieState) (number : ℕ) (n : Node) : Type 0 where
  pub within : n.start + n.count ≤ length s.elements
  pub found : find key_cmp (path_at s number) (entries_of s) ≡ own_of s.elements n

pub node_is : (s : TrieState) (number : ℕ) (d : Node) → AreNext s.elements [] s.nodes → 0 < number → number ≤ length s.nodes → IsNode s number (get_or s.nodes (number - 1) d)
node_is s zero d next some within = absurd (omega arith)
node_is s (suc i) d next some within =
    let back : suc i - 1 ≡ i = omega arith in
    let after = subst (AreNext s.elements (path_at s i)) (drop_more s.nodes i d (omega arith)) (at_number s.elements [] s.nodes i next (omega arith)).next in
    subst (λ k. IsNode s (suc i) (get_or s.nodes k d)) (sym back) (record { within = after.0.within; found = find_at s.elements [] s.nodes i d next (omega arith) })

-- what stands in for a child past the end
abbrev pub no_child : Child
no_child = record { point = 0; node = record { number = 0 } }

-- the comparisons with a code point rise along children, as a binary search requires
comparisons_rise : (cs : List Child) (x : ℕ) → IsNonDecreasingBy (λ (c : Child). c.point) cs → IsNonDecreasingBy (λ (c : Child). ordering_index (nat_cmp c.point x)) cs
comparisons_rise cs x rising i j d upto within = let up : (get_or cs i d).point ≤ (get_or cs j d).point = rising i j d upto within in grind (arith, nat_tests)

-- none has a code point that was not found
pub not_found : (cs : List Child) (x at : ℕ) → IsNonDecreasingBy (λ (c : Child). c.point) cs → at ≤ length cs → IsBinarySearchResult (λ (c : Child). nat_cmp c.point x) cs (Err at) → has_point cs x ≡ false
not_found cs x at rising within parted = or_from_places (λ l. has_point l x) (λ c. eqb c.point x) refl (λ _ _. refl) cs no_child (λ k inside. ne_eqb (get_or cs k no_child).point x (λ same. elim (cases_lt k at) [
  | inl below ↦ let less : (get_or cs k no_child).point < x = ranked _ x _ (sym ((parted (comparisons_rise cs x rising)).0 k no_child (omega arith) below)) in absurd (omega arith)
  | inr above ↦ let more : x < (get_or cs k no_child).point = ranked _ x _ (sym ((parted (comparisons_rise cs x rising)).1 k no_child above inside)) in absurd (omega arith)
]))

-- a key that begins as none does is not found
pub find_without : (es : List (List ℕ × List Element)) (w key : List ℕ) → begins_entry es w ≡ false → is_front w key ≡ true → find key_cmp key es ≡ None
find_without [] w key none front = refl
find_without (e ∷ es) w key none front = grind (arith, common_steps, cases_Bool, or_parts, tied_keys, find_without es w key)

-- there are no more entries than nodes
pub fewer_entries : (es : List Element) (p : List ℕ) (ns : List Node) → length (entries_after es p ns) ≤ length ns
fewer_entries es p [] = omega arith
fewer_entries es p (n ∷ ns) = let rest = fewer_entries es (path_after p n) ns in cond_both (eqb n.count 0) _ _ (λ l. length l ≤ suc (length ns)) (λ _. omega (arith, rest)) (λ _. omega (arith, rest))
