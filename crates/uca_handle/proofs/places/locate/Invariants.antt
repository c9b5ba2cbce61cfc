use Rattle.std.proofs.Common.{◌≡◌, ◌+◌, ◌≤◌, take}
use Rattle.uca_handle.specs.Places.{place_after}
use Rattle.uca_handle.proofs.places.locate.Given as goal

abbrev pub invariant-loop-byte : goal.invariant-loop-byte
invariant-loop-byte l = (l.place ≡ place_after (take l.byte-index l.byte-items)) × (l.place.line ≤ l.byte-index + 1) × (l.place.column ≤ l.byte-index + 1)
