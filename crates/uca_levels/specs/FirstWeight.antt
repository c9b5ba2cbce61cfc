-- A primary weight that a character has in each text, whatever comes before and after it.
use Rattle.std.specs.Prelude.{◌≡◌, ℕ, List, [], ◌∷◌, ◌++◌, Option, Some, None, IfSome}
use Rattle.std.specs.declared.cmp.Ordering.{Ordering}
use Rattle.uca_weights.specs.declared.settings.Variable.{Variable}
use Rattle.uca_model.specs.Table.{ElementTable}
use Rattle.uca_model.specs.LevelWeights.{level_list}
use Rattle.uca_model.specs.DecidingLevel.{OrdersLevel}
use Rattle.uca_match.specs.Yields.{YieldsFirst}
use Rattle.uca_levels.specs.Decides.{IsOfLevel}

-- a character and what follows it, or the end
abbrev pub going_on : Option ℕ → List ℕ → List ℕ
going_on None later = []
going_on (Some c) later = c ∷ later

-- at the first level a text has the weights of what comes before the character, and from there on this weight first, or none at the end
pub record BringsWeight (t : ElementTable) (v : Variable) (x weight : Option ℕ) : Type 0 where
  pub number : IfSome weight (IsOfLevel 1)
  pub others : List ℕ → List ℕ
  pub first : (later : List ℕ) → YieldsFirst (level_list t v (going_on x later) 1) weight (others later)
  pub lists : (front later : List ℕ) → level_list t v (front ++ going_on x later) 1 ≡ level_list t v front 1 ++ level_list t v (going_on x later) 1

-- texts with these two characters, or ends, after a common front are in this order at the first level, whatever the front is and whatever follows
abbrev pub OrderTexts : ElementTable → Variable → Option ℕ → Option ℕ → Ordering → Type 0
OrderTexts t v x y order = (front a b : List ℕ) → OrdersLevel 1 (level_list t v (front ++ going_on x a) 1) (level_list t v (front ++ going_on y b) 1) order
