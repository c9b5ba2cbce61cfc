-- The level that decides, found by one strength after the other.
use Rattle.std.proofs.Common.{◌≡◌, ℕ, suc, ◌+◌, ◌-◌, ◌≤◌, All, List, sym, ap, ◌∙◌, arith}
use Rattle.std.specs.Char.{IsScalar}
use Rattle.std.specs.declared.cmp.Ordering.{Ordering}
use Rattle.std.specs.declared.cmp.Ordering.TheVariants.{Equal}
use Rattle.uca_weights.specs.declared.settings.Settings.{Settings}
use Rattle.uca_weights.specs.Settings.{levels}
use Rattle.uca_weights.specs.declared.settings.Variable.{Variable}
use Rattle.uca_model.specs.DecidingLevel.{deciding_from, deciding_level, list_order}
use Rattle.uca_model.specs.LevelWeights.{level_list}
use Rattle.uca_model.specs.SortKey.{key_order, sort_key}
use Rattle.uca_model.specs.Table.{ElementTable, IsTable}
use Rattle.uca_model.proofs.LevelLemmas.{key_order-decided, deciding-here, deciding-last, deciding-next}
use Rattle.uca_model.proofs.WeightLemmas.{HasWeights-IsTable}

-- of however many levels, none before this one decides
abbrev pub NoneBefore : ElementTable → Variable → List ℕ → List ℕ → ℕ → Type 0
NoneBefore t v a b level = (last : ℕ) → level ≤ last → deciding_from (last - 1) 1 (level_list t v a) (level_list t v b) ≡ deciding_from (last - level) level (level_list t v a) (level_list t v b)

module _ (t : ElementTable) (v : Variable) (a b : List ℕ) (level : ℕ) (none : NoneBefore t v a b level) where
  -- the last level decides where none before it does
  pub decides-last : deciding_from (level - 1) 1 (level_list t v a) (level_list t v b) ≡ level
  decides-last = none level (omega arith) ∙ deciding-last (level - level) level _ _ (omega arith)

  -- equal lists leave it to the next level
  pub none-next : list_order (level_list t v a level) (level_list t v b level) ≡ Equal → NoneBefore t v a b (level + 1)
  none-next equal = λ last more.
      let some : last - level ≡ suc (last - (level + 1)) = omega arith in
      none last (omega arith) ∙ ap (λ n. deciding_from n level (level_list t v a) (level_list t v b)) some ∙ deciding-next (last - (level + 1)) level (level_list t v a) (level_list t v b) Equal (sym equal) (λ i. Equal)

module _ (t : ElementTable) (s : Settings) (a b : List ℕ) (table : IsTable t) (of_a : All IsScalar a) (of_b : All IsScalar b) (level : ℕ) (none : NoneBefore t s.weighting a b level) where
  -- keys are in the order of the lists of the level that decides
  orders-at : deciding_level t s a b ≡ level → key_order (sort_key t s a) (sort_key t s b) ≡ list_order (level_list t s.weighting a level) (level_list t s.weighting b level)
  orders-at is = key_order-decided t s a b (HasWeights-IsTable t s a table of_a) (HasWeights-IsTable t s b table of_b) ∙ ap (λ l. list_order (level_list t s.weighting a l) (level_list t s.weighting b l)) is

  -- it is the last one where none before it does
  pub orders-last : levels s.strength ≡ level → key_order (sort_key t s a) (sort_key t s b) ≡ list_order (level_list t s.weighting a level) (level_list t s.weighting b level)
  orders-last is = orders-at (ap (λ n. deciding_from (n - 1) 1 (level_list t s.weighting a) (level_list t s.weighting b)) is ∙ decides-last t s.weighting a b level none)

  -- lists that differ decide where none before them do
  pub decides-here : level ≤ levels s.strength → (o : Ordering) → o ≡ list_order (level_list t s.weighting a level) (level_list t s.weighting b level) → (o ≡ Equal → ⊥)
      → (o ≡ key_order (sort_key t s a) (sort_key t s b)) × (level ≡ deciding_level t s a b)
  decides-here more o same other =
      let here : deciding_level t s a b ≡ level = none (levels s.strength) more ∙ deciding-here (levels s.strength - level) level (level_list t s.weighting a) (level_list t s.weighting b) o same other in
      (same ∙ sym (orders-at here), sym here)
