-- The order of two lists of a level, decided by the first of each.
use Rattle.std.specs.Prelude.{◌≡◌, ℕ, ◌<◌, ◌≤◌, ◌^◌, List, Option, Some, IfSome}
use Rattle.std.specs.declared.cmp.Ordering.{Ordering}
use Rattle.uca_model.specs.DecidingLevel.{OrdersLevel}
use Rattle.uca_match.specs.Yields.{YieldsFirst}

-- what a list of a level has: weights that are not zero at the first four levels, code points at the fifth
pub record IsOfLevel (level n : ℕ) : Type 0 where
  pub weight : level < 5 → (0 < n) × (n < 2 ^ 16)
  pub point : n < 2 ^ 24

-- two lists of a level are in this order if these are the next of them, whatever comes after
pub record Decides (x y : Option ℕ) (order : Ordering) : Type 0 where
  pub orders : (level : ℕ) (xs ys later other : List ℕ) → level ≤ 5 → IfSome x (IsOfLevel level) → IfSome y (IsOfLevel level)
      → YieldsFirst xs x later → YieldsFirst ys y other → OrdersLevel level xs ys order

-- both lists go on, with the same number
pub record SameNumber (x y : Option ℕ) : Type 0 where
  pub number : ℕ
  pub first : x ≡ Some number
  pub second : y ≡ Some number
