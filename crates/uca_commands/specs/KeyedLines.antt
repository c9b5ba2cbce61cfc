-- What a line beside its sort key shows.
use Rattle.std.specs.Prelude.{ℕ, List, get_or}
use Rattle.uca_commands.specs.KeyPieces.{key_at}
use Rattle.uca_commands.specs.LinePlaces.{line_at, no_place}
use Rattle.uca_commands.specs.declared.keyed_line.KeyedLine.{KeyedLine}
use Rattle.uca_commands.specs.declared.keyed_line.KeyedLines.{KeyedLines}

-- the key and the line of a number
abbrev pub number_key : KeyedLines → ℕ → List ℕ
number_key of n = key_at of.ends.now of.keys.now n

abbrev pub number_line : KeyedLines → ℕ → List ℕ
number_line of n = line_at of.input.now (get_or of.places.now n no_place)

abbrev pub number_of : KeyedLine → ℕ
number_of l = l.number

abbrev pub key_of : KeyedLines → KeyedLine → List ℕ
key_of of l = number_key of l.number

abbrev pub line_of : KeyedLines → KeyedLine → List ℕ
line_of of l = number_line of l.number

-- the line of a number, with no bytes beside it
abbrev pub numbered : ℕ → KeyedLine
numbered n = record { front = 0; number = n }
