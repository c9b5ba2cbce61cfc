-- The elements of single characters as a table keeps them, and how they may join other text.
use Rattle.std.specs.Prelude.{◌≡◌, ℕ, ◌+◌, ◌*◌, ◌<◌, ◌≤◌, true, false, List, [], ◌∷◌, ◌++◌, length, take, drop, get_or}
use Rattle.unicode_normalization.specs.Forms.{nfd}
use Rattle.uca_weights.specs.declared.element.Element.{Element}
use Rattle.uca_model.specs.Table.{ElementTable}
use Rattle.uca_model.specs.CollationElements.{elements}
use Rattle.uca_model.specs.SafeCut.{is_cut}
use Rattle.uca_model.specs.StandAlone.{joining, bearing}
use Rattle.uca_table.specs.Lead.{HoldsLeads, IsLead, first_of}
use Rattle.uca_table.specs.Blocks.{place}
use Rattle.uca_table.specs.Marks.{HoldsMarks}
use Rattle.uca_table.specs.declared.characters.Cell.{Cell}
use Rattle.uca_table.specs.declared.cells.Cells.{Cells}

-- a cell is sound: its character joins no more and bears no less, a text may be cut before it where the cell says so, and where it has elements they are those of the character
pub record IsCell (t : ElementTable) (es : List Element) (c : ℕ) (cell : Cell) : Type 0 where
  pub joining : joining t c ≤ cell.joining
  pub bearing : cell.bearing ≤ bearing t c
  pub cut : cell.cut ≡ true → is_cut t c ≡ true
  pub within : cell.start + cell.count ≤ length es
  pub one : cell.count ≡ 1 → cell.element ≡ elements t (nfd (c ∷ []))
  pub lead : 0 < (first_of cell.element).l1 → IsLead (first_of cell.element) (elements t (nfd (c ∷ [])))
  pub elements : 0 < cell.count → take cell.count (drop cell.start es) ≡ elements t (nfd (c ∷ []))

-- a cell that says nothing
abbrev pub unknown : Cell
unknown = record { element = record { starred = false; l1 = 0; l2 = 0; l3 = 0 } ∷ []; start = 0; count = 0; joining = 2; bearing = 0; cut = false }

-- each of the 8704 blocks of all code points has a block of cells, and the cells at the places of code points are sound
pub record AreCells (t : ElementTable) (es : List Element) (numbers : List ℕ) (cells : List Cell) : Type 0 where
  pub all : length numbers ≡ 8704
  pub within : (b : ℕ) → b < 8704 → get_or numbers b 0 * 128 + 128 ≤ length cells
  pub each : (c : ℕ) → IsCell t es c (get_or cells (place numbers c) unknown)

-- cells of a table
abbrev pub HoldsCells : ElementTable → Cells → Type 0
HoldsCells t cells = HoldsMarks t cells.marks × AreCells t cells.elements.items cells.marks.blocks.numbers.items cells.cells.items

-- cells of a table, and the weights of the first characters
abbrev pub HoldsCharacters : ElementTable → Cells → Type 0
HoldsCharacters t cells = HoldsCells t cells × HoldsLeads t cells.leads.items

-- the second list begins with the first
abbrev pub Grows : List Element → List Element → Type 0
Grows old new = new ≡ old ++ drop (length old) new
