-- The collation elements that remain: those that will be given over a source.
use Rattle.std.specs.Prelude.{◌≡◌, ℕ, Bool, ◌&&◌, ◌==◌, nat_eq, length, drop, if◌then◌else◌, List, [], ◌∷◌, ◌++◌, Option, Some, None, refl}
use Rattle.std.specs.Coded.{Coded, code_by, coded×, coded_list, coded_ℕ, coded_bool}
use Rattle.uca_weights.specs.declared.element.Element.{Element}
use Rattle.uca_table.specs.Coded.{coded_table, coded_element}
use Rattle.uca_model.specs.Table.{ElementTable, longest}
use Rattle.uca_model.specs.CollationElements.{elements, elements_or_implicit}
use Rattle.uca_model.specs.Source.{SourceState}
use Rattle.uca_match.specs.WindowMatch.{key_held, after_match}
use Rattle.uca_model.specs.Window.{WindowState, IsWindow, empty_window, is_wanting, rest_of}

-- a table, the elements of the last match that were not given yet, and the window
pub record ElementsState : Type 0 where
  pub table : ElementTable
  pub waiting : List Element
  pub window : WindowState

-- nothing was read yet
abbrev pub new_elements : ElementTable → ElementsState
new_elements t = record { table = t; waiting = []; window = empty_window (longest t) }

-- its window
abbrev pub window_of : ElementsState → WindowState
window_of e = e.window

-- what is true of all of them: the window is one for the longest key of the table
pub record IsElements (t : ElementTable) (w : WindowState) : Type 0 where
  pub window : IsWindow w
  pub longest : w.longest ≡ longest t

-- the remaining elements over unread characters: those that wait, and then those of the window's rest
abbrev pub remaining_elements : ElementsState → List ℕ → List Element
remaining_elements e left = e.waiting ++ elements e.table (rest_of e.window left)

-- no element waits, and the window wants more
abbrev pub is_asking : ElementsState → Bool
is_asking e = nat_eq (length e.waiting) 0 && is_wanting e.window

-- the first of some elements
abbrev pub first_of : List Element → Option Element
first_of [] = None
first_of (x ∷ xs) = Some x

-- what it can give without reading, where it requests nothing: the elements that wait, or those of the match at the front of the window
abbrev pub elements_held : ElementTable → List Element → WindowState → List Element
elements_held t [] w = if w.closed == 0 then [] else elements_or_implicit t (key_held t w)
elements_held t (x ∷ xs) w = x ∷ xs

-- the window then
abbrev pub window_held : ElementTable → List Element → WindowState → WindowState
window_held t [] w = after_match t w
window_held t (x ∷ xs) w = w

-- what it gives then, and what it holds
abbrev pub yielded_held : ElementsState → Option Element
yielded_held e = first_of (elements_held e.table e.waiting e.window)

abbrev pub after_held : ElementsState → ElementsState
after_held e = record e { waiting = drop 1 (elements_held e.table e.waiting e.window); window = window_held e.table e.waiting e.window }

-- it gave the first of these, and read nothing
pub record YieldsHeld (old : ElementsState) (before : SourceState) (given : Option Element) (new : ElementsState) (after : SourceState) : Type 0 where
  pub source : after ≡ before
  pub answers : given ≡ yielded_held old
  pub becomes : new ≡ after_held old

-- what waits: elements of an entry, or the second of an implicit pair
abbrev pub waiting_of : List Element → Option Element → List Element
waiting_of es (Some e) = es ++ e ∷ []
waiting_of es None = es

-- as data, by which a proof distinguishes two of them
abbrev pub coded_window : Coded WindowState
coded_window = code_by (List ℕ × (ℕ × (ℕ × Bool))) (coded× (coded_list coded_ℕ) (coded× coded_ℕ (coded× coded_ℕ coded_bool))) (λ w. (w.points, (w.closed, (w.longest, w.ended)))) (λ p. record { points = p.0; closed = p.1.0; longest = p.1.1.0; ended = p.1.1.1 }) (λ _. refl)

abbrev pub coded_elements : Coded ElementsState
coded_elements = code_by (ElementTable × (List Element × WindowState)) (coded× coded_table (coded× (coded_list coded_element) coded_window)) (λ e. (e.table, (e.waiting, e.window))) (λ p. record { table = p.0; waiting = p.1.0; window = p.1.1 }) (λ _. refl)
