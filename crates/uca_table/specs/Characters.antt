-- A character by itself, and a view of those of a table.
use Rattle.std.specs.Prelude.{◌≡◌, ℕ, ◌≤◌, [], ◌∷◌}
use Rattle.unicode_normalization.specs.Forms.{nfd}
use Rattle.uca_model.specs.Table.{ElementTable}
use Rattle.uca_model.specs.CollationElements.{elements}
use Rattle.uca_model.specs.StandAlone.{bearing}
use Rattle.uca_table.specs.declared.characters.Character.{Character}
use Rattle.uca_table.specs.declared.characters.Characters.{Characters}

-- elements of a character by itself, and what it bears after it at least
pub record IsCharacter (t : ElementTable) (c : ℕ) (k : Character) : Type 0 where
  pub elements : k.elements.now ≡ elements t (nfd (c ∷ []))
  pub bearing : k.bearing ≤ bearing t c

-- the table of characters
abbrev pub table_of_characters : Characters → ElementTable
table_of_characters k = k.table.now
