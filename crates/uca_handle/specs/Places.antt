-- Where a byte of a text is.
use Rattle.std.specs.Prelude.{ℕ, ◌+◌, ◌==◌, ◌&&◌, Bool, not, nat_le, List, take, reverse, count_by, take_while}
use Rattle.uca_model.specs.Lines.{line_feed}
use Rattle.uca_handle.specs.declared.places.Place.{Place}

-- a byte that ends a line
abbrev pub ends_line : ℕ → Bool
ends_line b = b == line_feed

-- a byte that is not 80 to BF: each character in UTF-8 has one such byte, its first
abbrev pub begins_character : ℕ → Bool
begins_character b = not (nat_le 0x80 b && nat_le b 0xBF)

-- the bytes after the last LF
abbrev pub last_line : List ℕ → List ℕ
last_line bytes = reverse (take_while (λ b. not (ends_line b)) (reverse bytes))

-- the place after some bytes: the line and the character, counted from 1
abbrev pub place_after : List ℕ → Place
place_after front = record { line = count_by ends_line front + 1; column = count_by begins_character (last_line front) + 1 }

-- the place of a byte, or of the end of the text where it has no such byte
abbrev pub place_of : List ℕ → ℕ → Place
place_of bytes at = place_after (take at bytes)
