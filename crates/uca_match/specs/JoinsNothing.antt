-- Texts that join nothing that comes before them.
use Rattle.std.specs.Prelude.{◌≡◌, ◌⊎◌, ℕ, List, [], ◌∷◌}
use Rattle.uca_model.specs.StandAlone.{joining}
use Rattle.uca_model.specs.Table.{ElementTable}

-- a text begins with a character that joins nothing
pub record BeginsApart (t : ElementTable) (text : List ℕ) : Type 0 where
  pub c : ℕ
  pub later : List ℕ
  pub same : text ≡ c ∷ later
  pub apart : joining t c ≡ 0

-- a text joins nothing that comes before it: it is empty, or begins with such a character
abbrev pub JoinsNothing : ElementTable → List ℕ → Type 0
JoinsNothing t text = (text ≡ []) ⊎ BeginsApart t text
