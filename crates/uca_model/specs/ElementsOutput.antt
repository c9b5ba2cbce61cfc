-- What the command `elements` writes.
use Rattle.std.specs.Prelude.{ℕ, List, [], ◌∷◌, ◌++◌, flat_map, chars}
use Rattle.unicode_normalization.specs.Forms.{nfd}
use Rattle.uca_weights.specs.declared.element.Element.{Element}
use Rattle.uca_model.specs.CanonicalText.{element_text}
use Rattle.uca_model.specs.CollationElements.{elements}
use Rattle.uca_model.specs.Lines.{lines_of, line_feed}
use Rattle.uca_model.specs.Table.{ElementTable}

-- elements one after the other, without blanks, and LF
abbrev pub elements_text : List Element → List ℕ
elements_text es = flat_map element_text es ++ line_feed ∷ []

-- `elements`: the collation elements of each line
abbrev pub elements_line : ElementTable → List ℕ → List ℕ
elements_line t line = elements_text (elements t (nfd (chars line)))

abbrev pub elements_output : ElementTable → List ℕ → List ℕ
elements_output t bytes = flat_map (elements_line t) (lines_of bytes)
