use Rattle.uca_key.proofs.Common.{AreShort}
use Rattle.uca_key.proofs.windows.put_own_bytes.Given as goal

abbrev pub invariant-loop-weight : goal.invariant-loop-weight
invariant-loop-weight l = record {
  short : AreShort l.codes l.window.base l.bytes;
}
