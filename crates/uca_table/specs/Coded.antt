-- A table as data, by which a proof distinguishes two of them.
use Rattle.std.specs.Prelude.{ℕ, List, refl}
use Rattle.std.specs.Coded.{Coded, code_by, coded×, coded_list, coded_ℕ}
use Rattle.std.specs.FinMap.{FinMap, code}
use Rattle.uca_weights.specs.declared.element.Element.{Element}
pub use Rattle.uca_keys.specs.Coded.{coded_element, coded_entries}
use Rattle.uca_weights.specs.declared.range.Ideographs.{Ideographs}
use Rattle.uca_weights.specs.declared.range.Range.{Range}
use Rattle.uca_model.specs.Table.{ElementTable, key_cmp}

-- a range as its ends and its base
abbrev pub coded_range : Coded Range
coded_range = code_by (ℕ × (ℕ × ℕ)) (coded× coded_ℕ (coded× coded_ℕ coded_ℕ)) (λ r. (r.first, (r.last, r.base))) (λ p. record { first = p.0; last = p.1.0; base = p.1.1 }) (λ _. refl)

-- ranges one after the other
abbrev pub coded_ranges : Coded (List Range)
coded_ranges = coded_list coded_range

-- a range of ideographs as its ends
abbrev pub coded_ideographs : Coded Ideographs
coded_ideographs = code_by (ℕ × ℕ) (coded× coded_ℕ coded_ℕ) (λ r. (r.first, r.last)) (λ p. record { first = p.0; last = p.1 }) (λ _. refl)

-- a map from keys to elements as its entries
abbrev pub coded_map : Coded (FinMap key_cmp (List Element))
coded_map = code (coded_list coded_ℕ) (coded_list coded_element)

-- a table as its entries and its ranges
abbrev pub coded_table : Coded ElementTable
coded_table =
    code_by (FinMap key_cmp (List Element) × (List Range × List Ideographs)) (coded× (code (coded_list coded_ℕ) (coded_list coded_element)) (coded× coded_ranges (coded_list coded_ideographs)))
    (λ t. (t.entries, (t.ranges, t.ideographs))) (λ p. record { entries = p.0; ranges = p.1.0; ideographs = p.1.1 }) (λ _. refl)
