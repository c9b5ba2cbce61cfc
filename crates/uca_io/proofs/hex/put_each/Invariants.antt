use Rattle.std.proofs.Common.{◌≡◌, ◌*◌, ◌++◌, take, drop}
use Rattle.uca_io.specs.Hex.{spaced_pairs}
use Rattle.uca_io.proofs.hex.put_each.Given as goal

abbrev pub invariant-loop-byte : goal.invariant-loop-byte
invariant-loop-byte l = record {
  place : l.at ≡ 3 * l.byte-index;
  done : take l.at l.room ++ spaced_pairs (drop l.byte-index l.bytes) ≡ spaced_pairs l.bytes;
}
