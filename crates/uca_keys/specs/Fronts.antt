-- Which keys begin with some code points.
use Rattle.std.specs.Prelude.{ℕ, Bool, true, false, ◌==◌, ◌&&◌, List, [], ◌∷◌}
use Rattle.std.specs.List.{list_any}
use Rattle.uca_weights.specs.declared.element.Element.{Element}

-- a key begins with the code points, or is they
abbrev pub is_front : List ℕ → List ℕ → Bool
is_front [] key = true
is_front (x ∷ path) [] = false
is_front (x ∷ path) (y ∷ key) = y == x && is_front path key

-- some key does
abbrev pub begins_entry : List (List ℕ × List Element) → List ℕ → Bool
begins_entry es path = list_any (λ e. is_front path e.0) es

-- the last key, and no code points where there is none
abbrev pub last_key : List (List ℕ × List Element) → List ℕ
last_key [] = []
last_key (e ∷ []) = e.0
last_key (e ∷ f ∷ es) = last_key (f ∷ es)
