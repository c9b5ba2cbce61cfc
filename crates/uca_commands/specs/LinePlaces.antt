-- The lines of an input, by where they lie.
use Rattle.std.specs.Prelude.{ℕ, List}
use Rattle.uca_commands.specs.KeyPieces.{piece}
use Rattle.uca_commands.specs.declared.keyed_line.LinePlace.{LinePlace}

-- the line at a place
abbrev pub line_at : List ℕ → LinePlace → List ℕ
line_at input place = piece input place.start place.end

-- the place of a line that is not there: an empty one at the start
abbrev pub no_place : LinePlace
no_place = record { start = 0; end = 0 }
