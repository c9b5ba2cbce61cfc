use Rattle.std.proofs.Common.{◌≡◌, ◌^◌, ◌<◌, drop}
use Rattle.uca_io.specs.Digits.{number, number_after}
use Rattle.uca_io.proofs.digits.number.Given as goal

abbrev pub invariant-loop-byte : goal.invariant-loop-byte
invariant-loop-byte l = record {
  rest : number_after l.said (drop l.byte-index l.digits) ≡ number l.digits;
  small : l.said < 16 ^ l.byte-index;
}
