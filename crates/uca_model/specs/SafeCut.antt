-- Where a text may be cut, so that its two parts have their collation elements independently. A definition of this project.
use Rattle.std.specs.Prelude.{ℕ, ◌-◌, Bool, false, not, ◌&&◌, ◌||◌, ◌==◌, List, [], ◌∷◌, length, drop, slice_index, if◌then◌else◌}
use Rattle.std.specs.List.{list_any, list_all}
use Rattle.std.specs.FinMap.{entries}
use Rattle.unicode_normalization.specs.Forms.{nfd}
use Rattle.unicode_normalization.specs.Order.{is_starter}
use Rattle.uca_weights.specs.declared.element.Element.{Element}
use Rattle.uca_weights.specs.Element.{has_primary}
use Rattle.uca_model.specs.Table.{ElementTable}
use Rattle.uca_model.specs.Match.{greatest}

-- the code points begin with this one
abbrev pub begins_with : ℕ → List ℕ → Bool
begins_with s [] = false
begins_with s (c ∷ cs) = c == s

-- the first of the elements has a primary weight
abbrev pub begins_with_primary : List Element → Bool
begins_with_primary [] = false
begins_with_primary (e ∷ es) = has_primary e

-- the code point is not in the key at place 2 or later, and where the key begins with it, the first element has a primary weight
abbrev pub keeps_apart : ℕ → List ℕ × List Element → Bool
keeps_apart s entry = not (list_any (λ c. c == s) (drop 1 entry.0)) && (not (begins_with s entry.0) || begins_with_primary entry.1)

-- a starter that is in no key at place 2 or later, and whose keys all begin with a primary weight
abbrev pub is_safe_starter : ElementTable → ℕ → Bool
is_safe_starter t s = is_starter s && list_all (keeps_apart s) (entries t.entries)

-- the code points begin with a safe starter
abbrev pub begins_apart : ElementTable → List ℕ → Bool
begins_apart t [] = false
begins_apart t (s ∷ ss) = is_safe_starter t s

-- the NFD of the character begins with a safe starter
abbrev pub is_cut : ElementTable → ℕ → Bool
is_cut t c = begins_apart t (nfd (c ∷ []))

-- the longest common prefix
abbrev pub common_front : List ℕ → List ℕ → List ℕ
common_front [] ys = []
common_front (x ∷ xs) [] = []
common_front (x ∷ xs) (y ∷ ys) = if x == y then x ∷ common_front xs ys else []

-- the greatest place within a text whose character may be cut before, 0 where there is none
abbrev pub last_cut : ElementTable → List ℕ → ℕ
last_cut t text = greatest (λ place. is_cut t (slice_index text place)) (length text - 1)

-- the safe cut of two texts: the last one in their longest common prefix
abbrev pub cut_of : ElementTable → List ℕ → List ℕ → ℕ
cut_of t a b = last_cut t (common_front a b)
