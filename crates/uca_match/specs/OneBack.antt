-- One character back in a text.
use Rattle.std.specs.Prelude.{◌≡◌, ℕ, List, [], ◌∷◌, ◌+◌, length, chars}
use Rattle.unicode_normalization.specs.Forms.{nfd}
use Rattle.uca_model.specs.CollationElements.{elements}
use Rattle.uca_model.specs.Table.{ElementTable}

-- what is left from one character earlier on, and where the elements of that character begin, which end at a place
pub record IsOneBack (t : ElementTable) (rest : List ℕ) (at : ℕ) (back : List ℕ) (place : ℕ) : Type 0 where
  pub c : ℕ
  pub same : chars back ≡ c ∷ chars rest
  pub ends : place + length (elements t (nfd (c ∷ []))) ≡ at
