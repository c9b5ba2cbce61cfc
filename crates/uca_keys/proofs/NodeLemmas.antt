-- Nodes, their paths and the entries at which keys end.
use Rattle.uca_keys.proofs.Common.{◌≡◌, ℕ, zero, suc, ◌+◌, ◌≤◌, ◌<◌, true, false, cond, eqb, List, [], ◌∷◌, ◌++◌, length, take, drop, get_or, None, refl, sym, ap, subst, ◌∙◌, arith, eqb-true, ne_eqb, length-append, length-take-le, length-drop, take-take, take_all, append_assoc, le_refl, cases_Bool, cases_lt, cond_both, false_from_ne_true, or_from, or_left, or_right, true≢false, take-append-le, drop-append-le, length_push, Less, Greater, ordering_reverse, tied_itself, nat_list_cmp_total, find, Element, MAX_KEY, MAX_ELEMENTS, key_cmp, Node, is_front, begins_entry, path_after, paths_after, last_path, entries_after, first_depth, nodes_of, own_of, AreNext, AreFull, common_steps}
use Rattle.uca_keys.proofs.PathLemmas.{below_longer, chain, front_from, front_is, front_of_front}

-- the first code points of a path that goes on
pub path_front : (p : List ℕ) (n : Node) (d : ℕ) → d ≤ n.depth → n.depth ≤ length p → take d (path_after p n) ≡ take d p
path_front p n d upto from = grind (arith, common_steps, length-take-le, take-append-le, take-take)

pub path_long : (p : List ℕ) (n : Node) → n.depth ≤ length p → length (path_after p n) ≡ n.depth + 1
path_long p n from = length_push (take n.depth p) n.point ∙ ap (λ m. m + 1) (length-take-le n.depth p from)

-- nodes after a path, with these entries and then one for a key, at which they end
pub record AreUpTo (es : List Element) (p : List ℕ) (ns : List Node) (before : List (List ℕ × List Element)) (key : List ℕ) (els : List Element) : Type 0 where
  pub next : AreNext es p ns
  pub full : AreFull ns
  pub last : last_path p ns ≡ key
  pub entries : entries_after es p ns ≡ before ++ (key, els) ∷ []

-- the nodes of a key
nodes_of-first : (x : ℕ) (key : List ℕ) (d s c : ℕ) → first_depth (nodes_of (x ∷ key) d s c) ≡ d
nodes_of-first x [] d s c = refl
nodes_of-first x (y ∷ key) d s c = refl

pub nodes_of-are : (es : List Element) (p : List ℕ) (x : ℕ) (key : List ℕ) (d s c : ℕ) → d ≤ length p → key_cmp p (take d p ++ x ∷ []) ≡ Less → d + length (x ∷ key) ≤ MAX_KEY → s + c ≤ length es → 0 < c → c ≤ MAX_ELEMENTS
    → AreUpTo es p (nodes_of (x ∷ key) d s c) [] (take d p ++ x ∷ key) (take c (drop s es))
nodes_of-are es p x [] d s c from greater short within some few = record {
  next = (record { from = from; short = omega arith; greater = greater; within = within; few = few }, tt);
  full = (λ none. absurd (omega arith), tt);
  last = refl;
  entries = ap (λ b. cond b [] ((take d p ++ x ∷ [], take c (drop s es)) ∷ [])) (ne_eqb c 0 (omega arith));
}
nodes_of-are es p x (y ∷ key) d s c from greater short within some few =
    let q : List ℕ = take d p ++ x ∷ [] in
    let size : length q ≡ d + 1 = length_push (take d p) x ∙ ap (λ m. m + 1) (length-take-le d p from) in
    let whole : take (d + 1) q ≡ q = take_all (d + 1) q (omega arith) in
    let more : key_cmp q (take (d + 1) q ++ y ∷ []) ≡ Less = ap (λ l. key_cmp q (l ++ y ∷ [])) whole ∙ below_longer q y in
    let path : take (d + 1) q ++ y ∷ key ≡ take d p ++ x ∷ y ∷ key = ap (λ l. l ++ y ∷ key) whole ∙ append_assoc (take d p) (x ∷ []) (y ∷ key) in
    let rest : AreUpTo es q (nodes_of (y ∷ key) (d + 1) s c) [] (take d p ++ x ∷ y ∷ key) (take c (drop s es)) =
    subst (λ k. AreUpTo es q (nodes_of (y ∷ key) (d + 1) s c) [] k (take c (drop s es))) path (nodes_of-are es q y key (d + 1) s c (omega arith) more (omega arith) within some few) in
    record {
      next = (record { from = from; short = omega arith; greater = greater; within = omega arith; few = omega arith }, rest.next);
      full = (λ _. nodes_of-first y key (d + 1) s c, rest.full);
      last = rest.last;
      entries = rest.entries;
    }

first_kept : (ns more : List Node) (d : ℕ) → first_depth ns ≡ d + 1 → first_depth (ns ++ more) ≡ d + 1
first_kept [] more d is = absurd (omega arith)
first_kept (m ∷ ns) more d is = is

-- the nodes of a key after others
pub appended : (es more : List Element) (p : List ℕ) (ns new : List Node) (key : List ℕ) (els : List Element) → AreNext es p ns → AreFull ns → AreUpTo (es ++ more) (last_path p ns) new [] key els → AreUpTo (es ++ more) p (ns ++ new) (entries_after es p ns) key els
appended es more p [] new key els next full added = added
appended es more p (n ∷ ns) new key els next full added =
    let q = path_after p n in let rest = appended es more q ns new key els next.1 full.1 added in
    record {
      next = (record { from = next.0.from; short = next.0.short; greater = next.0.greater; within = omega (arith, next.0.within, length-append es more); few = next.0.few }, rest.next);
      full = (λ none. first_kept ns new n.depth (full.0 none), rest.full);
      last = rest.last;
      entries = grind (arith, common_steps, cases_Bool, rest.entries, next.0.within, length-drop, drop-append-le, take-append-le);
    }

-- each path is greater than those before it
pub paths_rise : (es : List Element) (p : List ℕ) (ns : List Node) (i j : ℕ) → AreNext es p ns → i < j → j ≤ length ns → key_cmp (get_or (p ∷ paths_after p ns) i []) (get_or (p ∷ paths_after p ns) j []) ≡ Less
paths_rise es p ns i zero next less within = absurd (omega arith)
paths_rise es p [] i (suc j) next less within = absurd (omega arith)
paths_rise es p (n ∷ ns) zero (suc zero) next less within = next.0.greater
paths_rise es p (n ∷ ns) zero (suc (suc j)) next less within = chain p (path_after p n) (get_or (paths_after (path_after p n) ns) j []) next.0.greater (paths_rise es (path_after p n) ns zero (suc j) next.1 (omega arith) (omega arith))
paths_rise es p (n ∷ ns) (suc i) (suc j) next less within = paths_rise es (path_after p n) ns i j next.1 (omega arith) (omega arith)

-- a key below all is not found
pub find_none : (es : List Element) (p r : List ℕ) (ns : List Node) → ((k : List ℕ) → key_cmp p k ≡ Less → key_cmp r k ≡ Less) → AreNext es p ns → find key_cmp r (entries_after es p ns) ≡ None
find_none es p r [] below next = refl
find_none es p r (n ∷ ns) below next = grind (arith, common_steps, cases_Bool, below (path_after p n) next.0.greater, find_none es (path_after p n) r ns (λ k h. below k (chain p (path_after p n) k next.0.greater h)) next.1)

-- the elements of a path
pub find_at : (es : List Element) (p : List ℕ) (ns : List Node) (i : ℕ) (d : Node) → AreNext es p ns → i < length ns → find key_cmp (get_or (paths_after p ns) i []) (entries_after es p ns) ≡ own_of es (get_or ns i d)
find_at es p [] i d next within = absurd (omega arith)
find_at es p (n ∷ ns) zero d next within = grind (arith, common_steps, cases_Bool, tied_itself nat_list_cmp_total (path_after p n), find_none es (path_after p n) (path_after p n) ns (λ k h. h) next.1)
find_at es p (n ∷ ns) (suc i) d next within =
    let q = path_after p n in let r = get_or (paths_after q ns) i [] in
    let above : key_cmp r q ≡ Greater = nat_list_cmp_total.antisymm r q ∙ ap ordering_reverse (paths_rise es q ns 0 (suc i) next.1 (omega arith) (omega arith)) in
    let rest = find_at es q ns i d next.1 (omega arith) in
    grind (arith, common_steps, cases_Bool, above, rest)

-- some key begins with what begins the path of the first node
first_begins : (es : List Element) (p w : List ℕ) (n : Node) (ns : List Node) → AreNext es p (n ∷ ns) → AreFull (n ∷ ns) → is_front w (path_after p n) ≡ true → begins_entry (entries_after es p (n ∷ ns)) w ≡ true
first_begins es p w n [] next full front = grind (arith, common_steps, cases_Bool, eqb-true, full.0)
first_begins es p w n (m ∷ ns) next full front =
    let q = path_after p n in
    cond_both (eqb n.count 0) _ _ (λ l. begins_entry l w ≡ true) (λ none.
    let on : m.depth ≡ length q = full.0 (eqb-true n.count 0 none) ∙ sym (path_long p n next.0.from) in
    let path : take (length q) (path_after q m) ≡ q = path_front q m (length q) (omega arith) next.1.0.from ∙ take_all (length q) q (le_refl (length q)) in
    first_begins es q w m ns next.1 full.1 (front_of_front w q (path_after q m) front (front_from q (path_after q m) path)))
    (λ _. or_left _ _ front)

-- some key begins with each path
pub begins_at : (es : List Element) (p : List ℕ) (ns : List Node) (i : ℕ) → AreNext es p ns → AreFull ns → i < length ns → begins_entry (entries_after es p ns) (get_or (paths_after p ns) i []) ≡ true
begins_at es p [] i next full within = absurd (omega arith)
begins_at es p (n ∷ ns) zero next full within = first_begins es p (path_after p n) n ns next full (front_from (path_after p n) (path_after p n) (take_all (length (path_after p n)) (path_after p n) (le_refl (length (path_after p n)))))
begins_at es p (n ∷ ns) (suc i) next full within =
    let rest = begins_at es (path_after p n) ns i next.1 full.1 (omega arith) in
    cond_both (eqb n.count 0) _ _ (λ l. begins_entry l (get_or (paths_after (path_after p n) ns) i []) ≡ true) (λ _. rest) (λ _. or_right _ _ rest)

-- nodes without entries are none
pub no_nodes : (es : List Element) (p : List ℕ) (ns : List Node) → AreNext es p ns → AreFull ns → entries_after es p ns ≡ [] → ns ≡ []
no_nodes es p [] next full none = refl
no_nodes es p (n ∷ ns) next full none = absurd (true≢false (sym (begins_at es p (n ∷ ns) 0 next full (omega arith)) ∙ ap (λ l. begins_entry l (path_after p n)) none))

-- a path that begins what goes on from another, but not that, is it
first_with : (w q : List ℕ) (n : Node) → n.depth ≤ length q → is_front w q ≡ false → is_front w (path_after q n) ≡ true → path_after q n ≡ w
first_with w q n from own other = grind (arith, cases_lt, front_is, front_from, path_front, path_long, take_all)

-- keys begin with paths only
pub unbegun : (es : List Element) (w q : List ℕ) (ns : List Node) → AreNext es q ns → is_front w q ≡ false → ((m : ℕ) → m < length ns → get_or (paths_after q ns) m [] ≡ w → ⊥) → begins_entry (entries_after es q ns) w ≡ false
unbegun es w q [] next own none = refl
unbegun es w q (n ∷ ns) next own none =
    let other : is_front w (path_after q n) ≡ false = false_from_ne_true (is_front w (path_after q n)) (λ h. none zero (omega arith) (first_with w q n next.0.from own h)) in
    let rest : begins_entry (entries_after es (path_after q n) ns) w ≡ false = unbegun es w (path_after q n) ns next.1 other (λ m within. none (suc m) (omega arith)) in
    cond_both (eqb n.count 0) _ _ (λ l. begins_entry l w ≡ false) (λ _. rest) (λ _. or_from _ _ other rest)
