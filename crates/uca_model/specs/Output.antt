-- What the commands write.
use Rattle.std.specs.Prelude.{ℕ, List, [], ◌∷◌, ◌++◌, flat_map, chars}
pub use Rattle.uca_io.specs.Digits.{hex_digit, hex_pair}
pub use Rattle.uca_io.specs.Hex.{hex_text}
pub use Rattle.uca_io.specs.Words.{blank}
use Rattle.uca_weights.specs.declared.settings.Settings.{Settings}
use Rattle.uca_model.specs.Table.{ElementTable}
use Rattle.uca_model.specs.SortKey.{sort_key}
use Rattle.uca_model.specs.Lines.{lines_of, line_feed}

-- bytes as pairs of digits, and LF
abbrev pub hex_line : List ℕ → List ℕ
hex_line bytes = hex_text bytes ++ line_feed ∷ []

-- `key`: the sort key of each line
abbrev pub key_line : ElementTable → Settings → List ℕ → List ℕ
key_line t s line = hex_line (sort_key t s (chars line))

abbrev pub key_output : ElementTable → Settings → List ℕ → List ℕ
key_output t s bytes = flat_map (key_line t s) (lines_of bytes)
