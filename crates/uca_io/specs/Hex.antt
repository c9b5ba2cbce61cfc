-- Bytes as hexadecimal digits.
use Rattle.std.specs.Prelude.{ℕ, List, [], ◌∷◌, map, flat_map}
use Rattle.std.specs.List.{join_with_byte}
use Rattle.uca_io.specs.Digits.{hex_pair}
use Rattle.uca_io.specs.Words.{blank}

-- bytes as pairs of digits with one blank between
abbrev pub hex_text : List ℕ → List ℕ
hex_text bytes = join_with_byte blank (map hex_pair bytes)

-- bytes as pairs of digits, with a blank before each
abbrev pub spaced_pairs : List ℕ → List ℕ
spaced_pairs bytes = flat_map (λ b. blank ∷ hex_pair b) bytes

-- digits two by two, with a blank before each two
abbrev pub spaced : List ℕ → List ℕ
spaced [] = []
spaced (d ∷ []) = []
spaced (d ∷ e ∷ digits) = blank ∷ d ∷ e ∷ spaced digits
