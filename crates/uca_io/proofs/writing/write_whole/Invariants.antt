use Rattle.std.proofs.Common.{◌≡◌, ◌≤◌, ◌-◌, length, take}
use Rattle.std.specs.Io.KnownBytes.{Appends}
use Rattle.uca_io.proofs.writing.write_whole.Given as goal

abbrev pub invariant-loop-at : goal.invariant-loop-at
invariant-loop-at g l = record {
  within : l.at ≤ length l.bytes;
  front : Appends (g.W.Writer.state l.fn.w).taken (g.W.Writer.state l.w).taken (take l.at l.bytes);
  failures : (g.W.Writer.state l.w).failures ≡ (g.W.Writer.state l.fn.w).failures;
  zeros : (g.W.Writer.state l.w).zeros ≡ (g.W.Writer.state l.fn.w).zeros;
}

abbrev pub decreases-loop-at : goal.decreases-loop-at
decreases-loop-at g l = length l.bytes - l.at
