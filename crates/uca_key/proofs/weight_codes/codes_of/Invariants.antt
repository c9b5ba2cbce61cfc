use Rattle.uca_key.proofs.Common.{◌≡◌, ◌+◌, ◌≤◌, length, PrimaryCode, AreCodes, IsCodeOf, IsMadeOf}
use Rattle.uca_key.proofs.weight_codes.codes_of.Given as goal

abbrev pub invariant-loop-w : goal.invariant-loop-w
invariant-loop-w l = record {
  size : length l.codes.items ≡ l.w + 1;
  most : l.code.slot ≤ l.w;
  last : (k : PrimaryCode) → IsMadeOf k l.parts → IsCodeOf k l.w l.code;
  each : (k : PrimaryCode) → IsMadeOf k l.parts → AreCodes k (l.w + 1) l.codes.items;
}
