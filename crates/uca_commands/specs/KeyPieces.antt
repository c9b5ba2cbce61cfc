-- Sort keys one after the other, by where each ends.
use Rattle.std.specs.Prelude.{ℕ, ◌+◌, ◌-◌, List, [], ◌∷◌, length, take, drop, get_or}

-- the bytes from one place to another
abbrev pub piece : List ℕ → ℕ → ℕ → List ℕ
piece bytes from to = take (to - from) (drop from bytes)

-- the key of this number
abbrev pub key_at : List ℕ → List ℕ → ℕ → List ℕ
key_at ends bytes n = piece bytes (get_or (0 ∷ ends) n 0) (get_or ends n 0)

-- where keys one after the other from a place on end
abbrev pub ends_from : ℕ → List (List ℕ) → List ℕ
ends_from from [] = []
ends_from from (k ∷ ks) = (from + length k) ∷ ends_from (from + length k) ks
