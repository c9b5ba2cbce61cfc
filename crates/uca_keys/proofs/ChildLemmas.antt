-- What the children of a node lead to.
use Rattle.uca_keys.proofs.Common.{◌≡◌, ℕ, zero, suc, ◌+◌, ◌≤◌, ◌<◌, true, nat_lt, eqb, List, [], ◌∷◌, ◌++◌, length, take, drop, get_or, sym, ap, ap₂, ◌∙◌, arith, eqb-true, ltb-false, le-ltb, length-drop, le_refl, cases_Bool, cond_both, drop_more, length_push, same_from_push, Less, IsNonDecreasingBy, Element, key_cmp, Node, Child, has_point, kids_from, path_after, paths_after, AreNext, common_steps}
use Rattle.uca_keys.proofs.PathLemmas.{chain, greater_point, longer_between}
use Rattle.uca_keys.proofs.NodeLemmas.{path_front, path_long, paths_rise}
-- other crates find these here
pub use Rattle.uca_keys.proofs.PathLemmas.{front_short, taken_front}

-- a child leads to the path with its code point
pub record IsKid (paths : List (List ℕ)) (p : List ℕ) (c : Child) : Type 0 where
  pub within : c.node.number < length paths
  pub path : get_or paths c.node.number [] ≡ p ++ c.point ∷ []

-- so do children whose numbers rise from one on
abbrev pub AreKidsFrom : List (List ℕ) → List ℕ → ℕ → List Child → Type 0
AreKidsFrom paths p least [] = Unit {0}
AreKidsFrom paths p least (c ∷ cs) = (least ≤ c.node.number) × (IsKid paths p c × AreKidsFrom paths p (c.node.number + 1) cs)

pub kids_sound : (es : List Element) (paths : List (List ℕ)) (p q : List ℕ) (least d i : ℕ) (ns : List Node) → AreNext es q ns → take d q ≡ p → d ≤ length q → drop i paths ≡ paths_after q ns → least ≤ i → AreKidsFrom paths p least (kids_from d i ns)
kids_sound es paths p q least d i [] next front long at from = tt
kids_sound es paths p q least d i (n ∷ ns) next front long at from =
    let r = path_after q n in let size : length r ≡ n.depth + 1 = path_long q n next.0.from in
    let inside : i < length paths = omega (arith, length-drop i paths, ap length at) in
    let parts : get_or paths i [] ∷ drop (i + 1) paths ≡ r ∷ paths_after r ns = sym (drop_more paths i [] inside) ∙ at in
    let after : drop (i + 1) paths ≡ paths_after r ns = ap (drop 1) parts in
    cond_both (nat_lt n.depth d) [] _ (AreKidsFrom paths p least) (λ _. tt) (λ enough.
    let above : d ≤ n.depth = ltb-false n.depth d enough in
    let again : take d r ≡ p = path_front q n d above next.0.from ∙ front in
    cond_both (eqb n.depth d) _ _ (AreKidsFrom paths p least)
    (λ here.
    let path : get_or paths i [] ≡ p ++ n.point ∷ [] = ap (λ l. get_or l 0 []) parts ∙ ap (λ m. take m q ++ n.point ∷ []) (eqb-true n.depth d here) ∙ ap (λ l. l ++ n.point ∷ []) front in
    (from, (record { within = inside; path = path }, kids_sound es paths p r (i + 1) d (i + 1) ns next.1 again (omega arith) after (le_refl (i + 1)))))
    (λ _. kids_sound es paths p r least d (i + 1) ns next.1 again (omega arith) after (omega arith)))

pub kid_at : (paths : List (List ℕ)) (p : List ℕ) (least : ℕ) (cs : List Child) (k : ℕ) (d : Child) → AreKidsFrom paths p least cs → k < length cs → IsKid paths p (get_or cs k d) × (least ≤ (get_or cs k d).node.number)
kid_at paths p least [] k d all within = absurd (omega arith)
kid_at paths p least (c ∷ cs) zero d all within = (all.1.0, all.0)
kid_at paths p least (c ∷ cs) (suc k) d all within = let rest = kid_at paths p (c.node.number + 1) cs k d all.1.1 (omega arith) in (rest.0, omega (arith, all.0, rest.1))

-- children are in the order of their code points
pub kids_rise : (paths : List (List ℕ)) (p : List ℕ) (least : ℕ) (cs : List Child) → ((i j : ℕ) → i < j → j < length paths → key_cmp (get_or paths i []) (get_or paths j []) ≡ Less) → AreKidsFrom paths p least cs → IsNonDecreasingBy (λ (c : Child). c.point) cs
kids_rise paths p least [] rise all i j d upto within = absurd (omega arith)
kids_rise paths p least (c ∷ cs) rise all zero zero d upto within = le_refl c.point
kids_rise paths p least (c ∷ cs) rise all zero (suc j) d upto within =
    let other = kid_at paths p (c.node.number + 1) cs j d all.1.1 (omega arith) in
    greater_point p c.point (get_or cs j d).point (ap₂ key_cmp (sym all.1.0.path) (sym other.0.path) ∙ rise c.node.number (get_or cs j d).node.number (omega (arith, other.1)) other.0.within)
kids_rise paths p least (c ∷ cs) rise all (suc i) zero d upto within = absurd (omega arith)
kids_rise paths p least (c ∷ cs) rise all (suc i) (suc j) d upto within = kids_rise paths p (c.node.number + 1) cs rise all.1.1 i j d (omega arith) (omega arith)

-- a node whose path goes on from another by a code point is a child
pub has_kid : (es : List Element) (p q : List ℕ) (x d i : ℕ) (ns : List Node) (m : ℕ) → AreNext es q ns → ((k : List ℕ) → key_cmp q k ≡ Less → key_cmp p k ≡ Less) → length p ≡ d → m < length ns → get_or (paths_after q ns) m [] ≡ p ++ x ∷ [] → has_point (kids_from d i ns) x ≡ true
has_kid es p q x d i [] m next below size within is = absurd (omega arith)
has_kid es p q x d i (n ∷ ns) zero next below size within is =
    let here : n.depth ≡ d = omega (arith, path_long q n next.0.from, length_push p x, ap length is) in
    let point : n.point ≡ x = (same_from_push (take n.depth q) p n.point x is).1 in
    grind (arith, common_steps, cases_Bool)
has_kid es p q x d i (n ∷ ns) (suc m) next below size within is =
    let r = path_after q n in
    let deep : length p < length r = longer_between p r x (below r next.0.greater) (ap (key_cmp r) (sym is) ∙ paths_rise es r ns 0 (suc m) next.1 (omega arith) (omega arith)) in
    let least : d ≤ n.depth = omega (arith, path_long q n next.0.from) in
    let rest : has_point (kids_from d (i + 1) ns) x ≡ true = has_kid es p r x d (i + 1) ns m next.1 (λ k above. below k (chain q r k next.0.greater above)) size (omega arith) is in
    grind (arith, common_steps, cases_Bool, le-ltb)
