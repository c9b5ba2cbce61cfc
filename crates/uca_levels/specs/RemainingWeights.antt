-- The weights of a level that remain: those that will be given over a source.
use Rattle.std.specs.Prelude.{◌≡◌, false, Option, Some, None, ℕ, ◌-◌, ◌<◌, not, ◌==◌, List, map, filter, slice_index, refl}
use Rattle.std.specs.Coded.{Coded, code_by, coded×, coded_ℕ}
use Rattle.uca_weights.specs.declared.element.Element.{Element}
use Rattle.uca_weights.specs.declared.settings.Variable.{Variable}
use Rattle.uca_weights.specs.VariableWeighting.{weights}
use Rattle.uca_weights.specs.Weigher.{WeigherState, after_element, weighted_from}
use Rattle.uca_weights.specs.Coded.{coded_weigher}
use Rattle.uca_model.specs.Table.{ElementTable}
use Rattle.uca_model.specs.Window.{WindowState, IsWindow, ReadsOn, after_read, credit}
use Rattle.uca_model.specs.Source.{SourceState, GivesNext, unread}
use Rattle.uca_match.specs.RemainingElements.{yielded_held, after_held, ElementsState, new_elements, remaining_elements, coded_elements}

-- the remaining elements, what weighs them, and the level
pub record WeightsState : Type 0 where
  pub elements : ElementsState
  pub weigher : WeigherState
  pub level : ℕ

-- nothing was read yet
abbrev pub new_weights : ElementTable → Variable → ℕ → WeightsState
new_weights t v level = record { elements = new_elements t; weigher = record { weighting = v; after = false }; level = level }

-- its window
abbrev pub window_of_weights : WeightsState → WindowState
window_of_weights w = w.elements.window

-- the remaining weights of the level over unread characters, zeros among them
abbrev pub remaining_with_zeros : WeightsState → List ℕ → List ℕ
remaining_with_zeros w left = map (λ ws. slice_index ws (w.level - 1)) (weighted_from w.weigher (remaining_elements w.elements left))

-- the remaining weights over unread characters
abbrev pub remaining_weights : WeightsState → List ℕ → List ℕ
remaining_weights w left = filter (λ weight. not (weight == 0)) (remaining_with_zeros w left)

-- what is true of the code points of the fifth level: their window is one for keys of a single code point
pub record IsPoints (w : WindowState) : Type 0 where
  pub window : IsWindow w
  pub longest : w.longest ≡ 1

-- a window by itself, whose rest remains
abbrev pub itself : WindowState → WindowState
itself w = w

-- as data, by which a proof distinguishes two of them
abbrev pub coded_weights : Coded WeightsState
coded_weights = code_by (ElementsState × (WeigherState × ℕ)) (coded× coded_elements (coded× coded_weigher coded_ℕ)) (λ w. (w.elements, (w.weigher, w.level))) (λ p. record { elements = p.0; weigher = p.1.0; level = p.1.1 }) (λ _. refl)

-- the weight of an element that was given, and the weigher after it
abbrev pub weight_given : WeightsState → Option Element → Option ℕ
weight_given w None = None
weight_given w (Some e) = Some (slice_index (weights w.weigher.weighting w.weigher.after e) (w.level - 1))

abbrev pub weigher_given : WeigherState → Option Element → WeigherState
weigher_given w None = w
weigher_given w (Some e) = record w { after = after_element w.after e }

-- it gave the weight of the element that its elements give without reading, and read nothing
pub record WeighsHeld (old : WeightsState) (before : SourceState) (given : Option ℕ) (new : WeightsState) (after : SourceState) : Type 0 where
  pub source : after ≡ before
  pub answers : given ≡ weight_given old (yielded_held old.elements)
  pub becomes : new ≡ record { elements = after_held old.elements; weigher = weigher_given old.weigher (yielded_held old.elements); level = old.level }

-- the weights with another window, in which a character was read, or the end
abbrev pub read_weights : WeightsState → Option ℕ → WeightsState
read_weights w given = record w { elements = record w.elements { window = after_read w.elements.window given } }

-- it read a character of a source, or the end, and its remaining weights stayed
pub record ReadsOne (old : WeightsState) (before : SourceState) (given : Option ℕ) (new : WeightsState) (after : SourceState) : Type 0 where
  pub reads : ReadsOn old.elements.window before new.elements.window after
  pub gives : GivesNext before given after
  pub next : new ≡ read_weights old given
  pub remaining : remaining_with_zeros new (unread after) ≡ remaining_with_zeros old (unread before)
  pub fewer : credit new.elements.window (unread after) < credit old.elements.window (unread before)
