-- Which texts have one key, and how the orders of strengths agree.
use Rattle.std.proofs.Common.{◌≡◌, ℕ, zero, suc, ◌+◌, ◌-◌, ◌≤◌, List, [], ◌∷◌, All, take, refl, sym, ap, ap₂, subst, ◌∙◌, arith, inl, inr}
use Rattle.std.proofs.lemmas.Bool.{cases_lt}
use Rattle.std.proofs.lemmas.Map.Lookups.{exact_bytes}
use Rattle.std.specs.Char.{IsScalar}
use Rattle.std.specs.Ordering.{ordering_then, nat_cmp}
use Rattle.std.specs.declared.cmp.Ordering.{Ordering}
use Rattle.std.specs.declared.cmp.Ordering.TheVariants.{Less, Equal, Greater}
use Rattle.unicode_normalization.specs.Forms.{nfd}
use Rattle.uca_weights.specs.declared.settings.Settings.{Settings}
use Rattle.uca_weights.specs.declared.settings.Strength.TheVariants.{Identical}
use Rattle.uca_weights.specs.Settings.{levels}
use Rattle.uca_weights.specs.VariableWeighting.{weighted}
use Rattle.uca_model.specs.Table.{ElementTable, IsTable}
use Rattle.uca_model.specs.LevelWeights.{level_list}
use Rattle.uca_model.specs.CollationElements.{elements}
use Rattle.uca_model.specs.DecidingLevel.{OrdersLevel, key_from, list_order}
use Rattle.uca_model.specs.SortKey.{all_levels, joined, key_order, sort_key}
use Rattle.uca_model.specs.TextLaws.{EquivalentTextsHaveOneKey, IdenticalKeysTellTextsApart, Refines, StrengthsRefine}
use Rattle.uca_model.proofs.LevelLemmas.{OrdersLevel-points, OrdersLevel-weights, levels-within, sort_key-levels}
use Rattle.uca_model.proofs.WeightLemmas.{HasWeights-IsTable}

-- ---- one NFD, one key

pub equivalent-keys : EquivalentTextsHaveOneKey
unfolding sort_key
equivalent-keys t s a b same = ap (λ (xs : List ℕ). joined (take (levels s.strength) (all_levels (weighted s.weighting (elements t xs)) xs))) same

-- ---- levels

-- texts of scalar values are ordered at each level
pub level-orders : (t : ElementTable) (s : Settings) (x y : List ℕ) → IsTable t → All IsScalar x → All IsScalar y → (level : ℕ) → 1 ≤ level → level ≤ 5
    → OrdersLevel level (level_list t s.weighting x level) (level_list t s.weighting y level) (list_order (level_list t s.weighting x level) (level_list t s.weighting y level))
level-orders t s x y valid of_x of_y level low top =
    let p = HasWeights-IsTable t s x valid of_x in
    let q = HasWeights-IsTable t s y valid of_y in
    elim (cases_lt level 5) [
      | inl weights ↦ OrdersLevel-weights level _ _ weights (p.weights level low weights) (q.weights level low weights)
      | inr points ↦
          let last : 5 ≡ level = omega arith in
          subst (λ l. OrdersLevel l (level_list t s.weighting x l) (level_list t s.weighting y l) (list_order (level_list t s.weighting x l) (level_list t s.weighting y l))) last (OrdersLevel-points (nfd x) (nfd y) p.points q.points)
    ]

-- an order that another follows
refines-then : (o p : Ordering) → Refines o (ordering_then o p)
refines-then Less p = record { less = λ e. e; greater = λ e. e; equal = λ e. e }
refines-then Equal p = record { less = λ e. cc; greater = λ e. cc; equal = λ e. refl }
refines-then Greater p = record { less = λ e. e; greater = λ e. e; equal = λ e. e }

-- behind an order that both have
refines-behind : (o low high : Ordering) → Refines low high → Refines (ordering_then o low) (ordering_then o high)
refines-behind Less low high h = record { less = λ e. e; greater = λ e. e; equal = λ e. e }
refines-behind Equal low high h = h
refines-behind Greater low high h = record { less = λ e. e; greater = λ e. e; equal = λ e. e }

module _ (la lb : ℕ → List ℕ) (orders : (level : ℕ) → 1 ≤ level → level ≤ 5 → OrdersLevel level (la level) (lb level) (list_order (la level) (lb level))) where
  -- the order by more levels refines that by fewer
  keys-refine : (m n level : ℕ) → m ≤ n → 1 ≤ level → level + n ≤ 5 → Refines (key_order (key_from m level la) (key_from m level lb)) (key_order (key_from n level la) (key_from n level lb))
  keys-refine zero zero level few low inside = record { less = λ e. e; greater = λ e. e; equal = λ e. e }
  keys-refine (suc m) zero level few low inside = absurd (omega arith)
  keys-refine zero (suc n) level few low inside =
      let here = orders level low (omega arith) in
      let o : Ordering = list_order (la level) (lb level) in
      let later : Ordering = key_order (key_from n (level + 1) la) (key_from n (level + 1) lb) in
      subst (λ (x : Ordering). Refines x (key_order (key_from (suc n) level la) (key_from (suc n) level lb))) (sym here.last)
      (subst (Refines o) (sym (here.next (omega arith) (key_from n (level + 1) la) (key_from n (level + 1) lb))) (refines-then o later))
  keys-refine (suc m) (suc n) level few low inside =
      let here = orders level low (omega arith) in
      let o : Ordering = list_order (la level) (lb level) in
      let fewer : Ordering = key_order (key_from m (level + 1) la) (key_from m (level + 1) lb) in
      let more : Ordering = key_order (key_from n (level + 1) la) (key_from n (level + 1) lb) in
      subst (λ (x : Ordering). Refines x (key_order (key_from (suc n) level la) (key_from (suc n) level lb))) (sym (here.next (omega arith) (key_from m (level + 1) la) (key_from m (level + 1) lb)))
      (subst (Refines (ordering_then o fewer)) (sym (here.next (omega arith) (key_from n (level + 1) la) (key_from n (level + 1) lb)))
      (refines-behind o fewer more (keys-refine m n (level + 1) (omega arith) (omega arith) (omega arith))))

  -- where keys of several levels are in the order Equal, so are the lists of the last level
  last-equal : (n level : ℕ) → 1 ≤ level → level + n ≤ 5 → key_order (key_from n level la) (key_from n level lb) ≡ Equal → list_order (la (level + n)) (lb (level + n)) ≡ Equal
  last-equal zero level low inside equal =
      let at : level ≡ level + 0 = omega arith in
      subst (λ (k : ℕ). list_order (la k) (lb k) ≡ Equal) at (sym (orders level low (omega arith)).last ∙ equal)
  last-equal (suc n) level low inside equal =
      let here = orders level low (omega arith) in
      let at : level + 1 + n ≡ level + suc n = omega arith in
      let later : Ordering = key_order (key_from n (level + 1) la) (key_from n (level + 1) lb) in
      subst (λ (k : ℕ). list_order (la k) (lb k) ≡ Equal) at
      (last-equal n (level + 1) (omega arith) (omega arith) (then-equal (list_order (la level) (lb level)) later (sym (here.next (omega arith) (key_from n (level + 1) la) (key_from n (level + 1) lb)) ∙ equal)))
    where
      then-equal : (o p : Ordering) → ordering_then o p ≡ Equal → p ≡ Equal
      then-equal Less p e = cc
      then-equal Equal p e = e
      then-equal Greater p e = cc

pub strengths-refine : StrengthsRefine
strengths-refine t v low high a b valid of_a of_b few =
    let s : Settings = record { strength = low; weighting = v } in
    let u : Settings = record { strength = high; weighting = v } in
    let la : ℕ → List ℕ = level_list t v a in
    let lb : ℕ → List ℕ = level_list t v b in
    let some : 1 ≤ levels low = (levels-within low).0 in
    let top : levels high ≤ 5 = (levels-within high).1 in
    subst (λ (x : Ordering). Refines x (key_order (sort_key t u a) (sort_key t u b))) (sym (ap₂ key_order (sort_key-levels t s a) (sort_key-levels t s b)))
    (subst (Refines (key_order (key_from (levels low - 1) 1 la) (key_from (levels low - 1) 1 lb))) (sym (ap₂ key_order (sort_key-levels t u a) (sort_key-levels t u b)))
    (keys-refine la lb (level-orders t s a b valid of_a of_b) (levels low - 1) (levels high - 1) 1 (omega arith) (omega arith) (omega arith)))

-- equal keys are in the order Equal
pub order-itself : (xs : List ℕ) → key_order xs xs ≡ Equal
order-itself [] = refl
order-itself (x ∷ xs) = ap (λ o. ordering_then o (key_order xs xs)) (number-itself x) ∙ order-itself xs
  where
    number-itself : (n : ℕ) → nat_cmp n n ≡ Equal
    number-itself n = grind arith

pub identical-keys : IdenticalKeysTellTextsApart
identical-keys t v a b valid of_a of_b = (apart, equivalent-keys t s a b)
  where
    s : Settings
    s = record { strength = Identical; weighting = v }

    apart : sort_key t s a ≡ sort_key t s b → nfd a ≡ nfd b
    apart same =
        let equal : key_order (sort_key t s a) (sort_key t s b) ≡ Equal = subst (λ (k : List ℕ). key_order (sort_key t s a) k ≡ Equal) same (order-itself (sort_key t s a)) in
        exact_bytes (nfd a) (nfd b)
        (last-equal (level_list t v a) (level_list t v b) (level-orders t s a b valid of_a of_b) 4 1 (omega arith) (omega arith)
        (sym (ap₂ key_order (sort_key-levels t s a) (sort_key-levels t s b)) ∙ equal))
