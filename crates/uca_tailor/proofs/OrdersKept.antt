-- A tailoring keeps the order of any two lists of keys, none of which is the item of a relation.
use Rattle.std.proofs.Common.{◌≡◌, ℕ, ◌+◌, ◌≤◌, Bool, false, List, [], ◌∷◌, length, Result, Ok, Err, refl, sym, ap₂, subst, ◌∙◌}
use Rattle.std.specs.List.{AllByRecursion, list_any}
use Rattle.std.specs.Ordering.{eq_by_cmp}
use Rattle.std.specs.FinMap.{values}
use Rattle.uca_weights.specs.declared.element.Element.{Element}
use Rattle.uca_weights.specs.declared.settings.Variable.{Variable}
use Rattle.uca_weights.specs.Element.{weight}
use Rattle.uca_model.specs.Table.{ElementTable, AreRanges, IsElement, key_cmp, with_entry}
use Rattle.uca_model.specs.CollationElements.{elements}
use Rattle.uca_model.specs.Rules.{Operator, first, second, third, same, Relation, Chain}
use Rattle.uca_model.specs.Gap.{table_with_gap, cannot_move}
use Rattle.uca_model.specs.Tailoring.{TailorCause, TailorFault, least, Placed, placed, Related, related, at_relation, related_all, tailored_from}
use Rattle.uca_tailor.proofs.Levels.{IsLevel, level_one, level_two, level_three}
use Rattle.uca_tailor.proofs.LevelOrders.{level_order, level_order-with_gap}
use Rattle.uca_tailor.proofs.ChangedTables.{elements_of_keys, elements_of_keys-with_gap, elements_of_keys_can_move, elements_of_keys-with_entry}
use Rattle.uca_tailor.proofs.RelationFacts.{same_ok, bind_ok, IsPlacedAt, is_placed_at, is_entered}
use Rattle.uca_tailor.proofs.FittingWeights.{shifted_fit}

-- two lists of elements are in the order of two others at each of the four levels, however they are weighted
abbrev pub SameOrders : List Element → List Element → List Element → List Element → Type 0
SameOrders es fs xs ys = (v : Variable) (level : ℕ) → 1 ≤ level → level ≤ 4 → level_order v level es fs ≡ level_order v level xs ys

-- a table keeps the orders of the elements of all keys but those that a test names, and their weights to sixteen bits
pub record KeepsOrders (t u : ElementTable) (touched : List ℕ → Bool) : Type 0 where
  pub ranges : u.ranges ≡ t.ranges
  pub orders : (ks ls : List (List ℕ)) → AllByRecursion (λ k. touched k ≡ false) ks → AllByRecursion (λ k. touched k ≡ false) ls
      → SameOrders (elements_of_keys u ks) (elements_of_keys u ls) (elements_of_keys t ks) (elements_of_keys t ls)
  pub fits : (ks : List (List ℕ)) → AllByRecursion (λ k. touched k ≡ false) ks → AllByRecursion IsElement (elements_of_keys t ks) → AllByRecursion IsElement (elements_of_keys u ks)

KeepsOrders-refl : (t : ElementTable) (q : List ℕ → Bool) → KeepsOrders t t q
KeepsOrders-refl t q = record { ranges = refl; orders = λ ks ls a b v level low most. refl; fits = λ ks a h. h }

KeepsOrders-trans : (t u x : ElementTable) (q : List ℕ → Bool) → KeepsOrders t u q → KeepsOrders u x q → KeepsOrders t x q
KeepsOrders-trans t u x q a b = record {
  ranges = b.ranges ∙ a.ranges;
  orders = λ ks ls p r v level low most. b.orders ks ls p r v level low most ∙ a.orders ks ls p r v level low most;
  fits = λ ks p h. b.fits ks p (a.fits ks p h);
}

-- an entry changes the elements of no other key
KeepsOrders-with_entry : (t : ElementTable) (k : List ℕ) (es : List Element) (q : List ℕ → Bool) → ((x : List ℕ) → q x ≡ false → eq_by_cmp key_cmp x k ≡ false) → KeepsOrders t (with_entry t k es) q
KeepsOrders-with_entry t k es q apart = record {
  ranges = refl;
  orders = λ ks ls a b v level low most. ap₂ (level_order v level) (kept ks a) (kept ls b);
  fits = λ ks a h. subst (AllByRecursion IsElement) (sym (kept ks a)) h;
} where
  each : (xs : List (List ℕ)) → AllByRecursion (λ x. q x ≡ false) xs → AllByRecursion (λ x. eq_by_cmp key_cmp x k ≡ false) xs
  each [] h = tt
  each (x ∷ xs) h = (apart x h.0, each xs h.1)

  kept : (xs : List (List ℕ)) → AllByRecursion (λ x. q x ≡ false) xs → elements_of_keys (with_entry t k es) xs ≡ elements_of_keys t xs
  kept xs h = elements_of_keys-with_entry t k es xs (each xs h)

-- making a gap where one can be made keeps all orders
KeepsOrders-with_gap : (m w : ℕ) (t : ElementTable) (q : List ℕ → Bool) → IsLevel m → AreRanges t.ranges → least m ≤ w → list_any (list_any (cannot_move m w)) (values t.entries) ≡ false → KeepsOrders t (table_with_gap m w t) q
KeepsOrders-with_gap m w t q l r h e = record {
  ranges = refl;
  orders = λ ks ls a b v level low most.
      ap₂ (level_order v level) (elements_of_keys-with_gap m w t ks r h) (elements_of_keys-with_gap m w t ls r h)
      ∙ level_order-with_gap v m w level (elements_of_keys t ks) (elements_of_keys t ls) low most (elements_of_keys_can_move m w t ks l r h e) (elements_of_keys_can_move m w t ls l r h e);
  fits = λ ks a g. subst (AllByRecursion IsElement) (sym (elements_of_keys-with_gap m w t ks r h)) (shifted_fit m w (elements_of_keys t ks) l (elements_of_keys_can_move m w t ks l r h e) g);
}

-- ## One relation

at_level : (level : ℕ) (t : ElementTable) (anchor : List Element) (p : Placed) (q : List ℕ → Bool) → IsLevel level → AreRanges t.ranges → IsPlacedAt level t anchor p → KeepsOrders t p.table q
at_level level t anchor p q l r h = subst (λ z. KeepsOrders t z.table q) (sym h.are) (KeepsOrders-with_gap level (weight level h.split.last) t q l r h.free.large h.free.table_can_move)

keeps_placed : (t : ElementTable) (anchor : List Element) (op : Operator) (p : Placed) (q : List ℕ → Bool) → AreRanges t.ranges → placed t anchor op ≡ Ok p → KeepsOrders t p.table q
keeps_placed t anchor first p q r e = at_level 1 t anchor p q level_one r (is_placed_at 1 t anchor p e)
keeps_placed t anchor second p q r e = at_level 2 t anchor p q level_two r (is_placed_at 2 t anchor p e)
keeps_placed t anchor third p q r e = at_level 3 t anchor p q level_three r (is_placed_at 3 t anchor p e)
keeps_placed t anchor same p q r e = let same : record { base = anchor; table = t } ≡ p = same_ok {E = TailorCause} _ p e in subst (λ z. KeepsOrders t z.table q) same (KeepsOrders-refl t q)

keeps_related : (t : ElementTable) (anchor : List Element) (r : Relation) (next : Related) (q : List ℕ → Bool) → AreRanges t.ranges → ((x : List ℕ) → q x ≡ false → eq_by_cmp key_cmp x r.item ≡ false)
    → related t anchor r ≡ Ok next → KeepsOrders t next.table q
keeps_related t anchor r next q ranges apart e =
    let h = is_entered t anchor r next e in
    subst (λ z. KeepsOrders t z q) (sym h.table)
    (KeepsOrders-trans t h.place.table _ q (keeps_placed t anchor r.op h.place q ranges h.is_place) (KeepsOrders-with_entry h.place.table r.item _ q apart))

-- ## All relations

at_relation_ok : {A : Type 0} (n : ℕ) (r : Result A TailorCause) (x : A) → at_relation n r ≡ Ok x → r ≡ Ok x
at_relation_ok n (Ok y) x e = cc
at_relation_ok n (Err c) x e = absurd (cc)

-- a test names the items of all relations
abbrev pub Covers : (List ℕ → Bool) → List Relation → Type 0
Covers q rs = AllByRecursion (λ r. (x : List ℕ) → q x ≡ false → eq_by_cmp key_cmp x r.item ≡ false) rs

keeps_related_all : (n : ℕ) (t : ElementTable) (anchor : List Element) (rs : List Relation) (u : ElementTable) (q : List ℕ → Bool) → AreRanges t.ranges → Covers q rs → related_all n t anchor rs ≡ Ok u → KeepsOrders t u q
unfolding related_all
keeps_related_all n t anchor [] u q ranges c e = subst (λ z. KeepsOrders t z q) (same_ok {E = TailorFault} t u e) (KeepsOrders-refl t q)
keeps_related_all n t anchor (r ∷ rs) u q ranges c e =
    let b = bind_ok (at_relation (n + 1) (related t anchor r)) (λ next. related_all (n + 1) next.table next.anchor rs) u e in
    let k = keeps_related t anchor r b.0 q ranges c.0 (at_relation_ok (n + 1) (related t anchor r) b.0 b.1) in
    KeepsOrders-trans t b.0.table u q k (keeps_related_all (n + 1) b.0.table b.0.anchor rs u q (subst AreRanges (sym k.ranges) ranges) c.1 b.2)

abbrev pub CoversChains : (List ℕ → Bool) → List Chain → Type 0
CoversChains q cs = AllByRecursion (λ c. Covers q c.relations) cs

pub keeps_tailored_from : (n : ℕ) (t : ElementTable) (cs : List Chain) (u : ElementTable) (q : List ℕ → Bool) → AreRanges t.ranges → CoversChains q cs → tailored_from n t cs ≡ Ok u → KeepsOrders t u q
unfolding tailored_from
keeps_tailored_from n t [] u q ranges c e = subst (λ z. KeepsOrders t z q) (same_ok {E = TailorFault} t u e) (KeepsOrders-refl t q)
keeps_tailored_from n t (x ∷ cs) u q ranges c e =
    let b = bind_ok (related_all n t (elements t x.reset) x.relations) (λ next. tailored_from (n + length x.relations) next cs) u e in
    let k = keeps_related_all n t (elements t x.reset) x.relations b.0 q ranges c.0 b.1 in
    KeepsOrders-trans t b.0 u q k (keeps_tailored_from (n + length x.relations) b.0 cs u q (subst AreRanges (sym k.ranges) ranges) c.1 b.2)
