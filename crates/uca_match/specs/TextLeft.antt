-- The elements of a text in memory that are left (UTS #10, 7.2, step S2).
use Rattle.std.specs.Prelude.{ℕ, List, length, chars, Option, Some, None}
use Rattle.unicode_normalization.specs.Forms.{nfd}
use Rattle.uca_weights.specs.declared.element.Element.{Element}
use Rattle.uca_model.specs.CollationElements.{elements}
use Rattle.uca_model.specs.Source.{unread}
use Rattle.uca_match.specs.RemainingElements.{remaining_elements}
use Rattle.uca_match.specs.declared.text_window.TextWindow.{TextWindow}
use Rattle.uca_match.specs.declared.text_elements.TextElements.{TextElements}

-- the elements that the window has left, where there is one, and else these
abbrev pub left_of : Option TextWindow → List Element → List Element
left_of None es = es
left_of (Some w) es = remaining_elements w.elements (unread w.source)

-- how many code points are in the window
abbrev pub points_of : Option TextWindow → ℕ
points_of None = 0
points_of (Some w) = length w.elements.window.points

-- those of the window, or else of the rest of the text
abbrev pub elements_left : TextElements → List Element
elements_left e = left_of e.window (elements e.table.now (nfd (chars e.rest.now)))
