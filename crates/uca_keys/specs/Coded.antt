-- Entries as data, by which a proof distinguishes two lists of them.
use Rattle.std.specs.Prelude.{ℕ, Bool, List, refl}
use Rattle.std.specs.Borrow.{Bor}
use Rattle.std.specs.Coded.{Coded, code_by, coded×, coded_list, coded_ℕ, coded_bool}
use Rattle.arrayvec.specs.ArrayVec.{ArrayVec}
use Rattle.uca_weights.specs.declared.element.Element.{Element}

-- an element as its mark and its weights
abbrev pub coded_element : Coded Element
coded_element = code_by (Bool × (ℕ × (ℕ × ℕ))) (coded× coded_bool (coded× coded_ℕ (coded× coded_ℕ coded_ℕ))) (λ e. (e.starred, (e.l1, (e.l2, e.l3)))) (λ p. record { starred = p.0; l1 = p.1.0; l2 = p.1.1.0; l3 = p.1.1.1 }) (λ _. refl)

-- entries as pairs of lists
abbrev pub coded_entries : Coded (List (List ℕ × List Element))
coded_entries = coded_list (coded× (coded_list coded_ℕ) (coded_list coded_element))

-- a key and its elements, as an iterator gives them
abbrev pub key_and_elements : ArrayVec ℕ × Bor (List Element) → List ℕ × List Element
key_and_elements e = (e.0.items, e.1.now)
