-- Why bytes were not read to their end.
use Rattle.std.specs.Prelude.{◌≡◌, ℕ, ◌+◌, ◌<◌, ◌≤◌, List, length}
use Rattle.uca_io.specs.Reader.{ReaderState, Gives, GivesAndFails}
use Rattle.uca_io.specs.declared.reading.Stop.{Stop}
use Rattle.uca_io.specs.declared.reading.Stop.TheVariants.{TooLarge, Read, OutOfMemory}

-- one byte too many was read and nothing after it, or before that the reader failed, or memory for the bytes was refused
abbrev pub StopsAt : ℕ → Stop → ReaderState → ReaderState → Type 0
StopsAt limit TooLarge old new = (bytes : List ℕ) × (Gives old new bytes × (length bytes ≡ limit + 1))
StopsAt limit Read old new = (bytes : List ℕ) × (GivesAndFails old new bytes × (length bytes ≤ limit))
StopsAt limit OutOfMemory old new = (bytes : List ℕ) × (Gives old new bytes × ((0 < length bytes) × (length bytes ≤ limit)))
