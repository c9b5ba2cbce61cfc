-- Two untouched texts keep their order.
use Rattle.std.proofs.Common.{◌≡◌, ℕ, ◌-◌, ◌≤◌, Bool, false, ◌==◌, List, [], ◌∷◌, ◌++◌, map, flat_map, All, Ok, refl, sym, ap, ap₂, subst, ◌∙◌, arith, inl, inr, ne_eqb}
use Rattle.std.proofs.lemmas.Bool.{cases_lt, cond-false}
use Rattle.std.proofs.lemmas.List.Folds.{list_any-append}
use Rattle.std.specs.Char.{IsScalar}
use Rattle.std.specs.List.{AllByRecursion, list_any}
use Rattle.std.specs.Ordering.{eq_by_cmp}
use Rattle.unicode_normalization.specs.Forms.{nfd}
use Rattle.uca_weights.specs.declared.settings.Variable.{Variable}
use Rattle.uca_weights.specs.Settings.{levels}
use Rattle.uca_model.specs.Table.{ElementTable, IsElement, IsTable, AreRanges, key_cmp, is_key}
use Rattle.uca_model.specs.Match.{Match}
use Rattle.uca_model.specs.CollationElements.{matches, elements, elements_or_implicit}
use Rattle.uca_model.specs.LevelWeights.{level_list}
use Rattle.uca_model.specs.DecidingLevel.{list_order}
use Rattle.uca_model.specs.Rules.{Relation, Chain, items}
use Rattle.uca_model.specs.Tailoring.{tailored, is_touched, IsUntouched}
use Rattle.uca_model.proofs.LevelLemmas.{levels-within}
use Rattle.uca_model.proofs.AnchorElements.{or_false}
use Rattle.uca_model.proofs.WeightLemmas.{Fits-IsTable, elements-fit, HasWeights-elements, HasWeights-IsTable}
use Rattle.uca_tailor.specs.TailoringLaws.{UntouchedTextsKeepTheirOrder}
use Rattle.uca_tailor.proofs.LevelOrders.{level_order}
use Rattle.uca_tailor.proofs.ChangedTables.{elements_of_keys, elements_of_matches}
use Rattle.uca_tailor.proofs.OrdersKept.{SameOrders, Covers, CoversChains, keeps_tailored_from}
use Rattle.uca_tailor.proofs.KeyOrders.{key_order-orders, orders-same}

any-append : {A : Type 0} (p : A → Bool) (xs ys : List A) → list_any p (xs ++ ys) ≡ false → (list_any p xs ≡ false) × (list_any p ys ≡ false)
any-append p xs ys e = or_false (list_any p xs) (list_any p ys) (sym (list_any-append p xs ys) ∙ e)

-- a test that covers a list of items covers each of them
covers_relations : (q : List ℕ → Bool) (rs : List Relation) → ((x : List ℕ) → q x ≡ false → list_any (eq_by_cmp key_cmp x) (map (λ r. r.item) rs) ≡ false) → Covers q rs
covers_relations q [] h = tt
covers_relations q (r ∷ rs) h = (λ x e. (or_false (eq_by_cmp key_cmp x r.item) _ (h x e)).0, covers_relations q rs (λ x e. (or_false (eq_by_cmp key_cmp x r.item) _ (h x e)).1))

covers_chains : (q : List ℕ → Bool) (cs : List Chain) → ((x : List ℕ) → q x ≡ false → list_any (eq_by_cmp key_cmp x) (items cs) ≡ false) → CoversChains q cs
covers_chains q [] h = tt
covers_chains q (c ∷ cs) h = (
  covers_relations q c.relations (λ x e. (any-append (eq_by_cmp key_cmp x) (map (λ r. r.item) c.relations) (items cs) (h x e)).0),
  covers_chains q cs (λ x e. (any-append (eq_by_cmp key_cmp x) (map (λ r. r.item) c.relations) (items cs) (h x e)).1),
)

all_keys : (q : List ℕ → Bool) (ms : List Match) → AllByRecursion (λ m. q m.code_points ≡ false) ms → AllByRecursion (λ k. q k ≡ false) (map (λ m. m.code_points) ms)
all_keys q [] h = tt
all_keys q (m ∷ ms) h = (h.0, all_keys q ms h.1)

-- the keys that a text matches
abbrev keys_of : ElementTable → List ℕ → List (List ℕ)
keys_of t x = map (λ m. m.code_points) (matches (is_key t) (nfd x))

old_elements : (t : ElementTable) (x : List ℕ) → elements t (nfd x) ≡ elements_of_keys t (keys_of t x)
old_elements t x = elements_of_matches t (matches (is_key t) (nfd x))

new_elements : (t u : ElementTable) (cs : List Chain) (x : List ℕ) → IsUntouched t u cs x → elements u (nfd x) ≡ elements_of_keys u (keys_of t x)
new_elements t u cs x h = ap (flat_map (λ m. elements_or_implicit u m.code_points)) (sym h.same_matches) ∙ elements_of_matches u (matches (is_key t) (nfd x))

same_orders : (t u : ElementTable) (cs : List Chain) (x y : List ℕ) → AreRanges t.ranges → tailored t cs ≡ Ok u → IsUntouched t u cs x → IsUntouched t u cs y
    → SameOrders (elements_of_keys u (keys_of t x)) (elements_of_keys u (keys_of t y)) (elements_of_keys t (keys_of t x)) (elements_of_keys t (keys_of t y))
same_orders t u cs x y r e p q =
    (keeps_tailored_from 0 t cs u (is_touched cs) r (covers_chains (is_touched cs) cs (λ x e. e)) e).orders (keys_of t x) (keys_of t y)
    (all_keys (is_touched cs) (matches (is_key t) (nfd x)) p.others) (all_keys (is_touched cs) (matches (is_key t) (nfd y)) q.others)

levels_stay : (t u : ElementTable) (cs : List Chain) (v : Variable) (level : ℕ) (x y : List ℕ) → AreRanges t.ranges → tailored t cs ≡ Ok u → 1 ≤ level → level ≤ 4
    → IsUntouched t u cs x → IsUntouched t u cs y → level_order v level (elements u (nfd x)) (elements u (nfd y)) ≡ level_order v level (elements t (nfd x)) (elements t (nfd y))
levels_stay t u cs v level x y r e a b p q =
    ap₂ (level_order v level) (new_elements t u cs x p) (new_elements t u cs y q)
    ∙ same_orders t u cs x y r e p q v level a b
    ∙ sym (ap₂ (level_order v level) (old_elements t x) (old_elements t y))

-- ## Sort keys

fits_untouched : (t u : ElementTable) (cs : List Chain) (x : List ℕ) → IsTable t → tailored t cs ≡ Ok u → All IsScalar x → IsUntouched t u cs x → AllByRecursion IsElement (elements u (nfd x))
fits_untouched t u cs x table e scalars h =
    subst (AllByRecursion IsElement) (sym (new_elements t u cs x h))
    ((keeps_tailored_from 0 t cs u (is_touched cs) table.ranges (covers_chains (is_touched cs) cs (λ x e. e)) e).fits _ (all_keys (is_touched cs) (matches (is_key t) (nfd x)) h.others)
    (subst (AllByRecursion IsElement) (old_elements t x) (elements-fit t x (Fits-IsTable t table) scalars)))

lists_stay : (t u : ElementTable) (cs : List Chain) (v : Variable) (x y : List ℕ) → AreRanges t.ranges → tailored t cs ≡ Ok u → IsUntouched t u cs x → IsUntouched t u cs y
    → (level : ℕ) → 1 ≤ level → level ≤ 5 → list_order (level_list u v x level) (level_list u v y level) ≡ list_order (level_list t v x level) (level_list t v y level)
lists_stay t u cs v x y r e p q level low top = elim (cases_lt level 5) [
  | inl less ↦
      let other = ne_eqb level 5 (λ e. absurd (omega arith)) in
      ap₂ list_order (cond-false (level == 5) _ _ other) (cond-false (level == 5) _ _ other)
      ∙ levels_stay t u cs v level x y r e low (omega arith) p q
      ∙ sym (ap₂ list_order (cond-false (level == 5) _ _ other) (cond-false (level == 5) _ _ other))
  | inr more ↦ let is : 5 ≡ level = omega arith in subst (λ k. list_order (level_list u v x k) (level_list u v y k) ≡ list_order (level_list t v x k) (level_list t v y k)) is refl
]

pub untouched : UntouchedTextsKeepTheirOrder
untouched t u cs s x y table e a b p q =
    let few = levels-within s.strength in
    let some : 1 ≤ levels s.strength = few.0 in
    let most : levels s.strength ≤ 5 = few.1 in
    key_order-orders u s x y (HasWeights-elements u s x a (fits_untouched t u cs x table e a p)) (HasWeights-elements u s y b (fits_untouched t u cs y table e b q))
    ∙ orders-same (levels s.strength - 1) 1 _ _ _ _ (λ k low top. lists_stay t u cs s.weighting x y table.ranges e p q k low (omega arith))
    ∙ sym (key_order-orders t s x y (HasWeights-IsTable t s x table a) (HasWeights-IsTable t s y table b))
