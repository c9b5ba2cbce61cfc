use Rattle.std.proofs.Common.{◌≡◌, ◌≤◌, ◌+◌, ◌*◌, List, ℕ, ◌++◌, length}
use Rattle.uca_io.specs.OutputBuffer.{accepted, Accepts}
use Rattle.uca_io.specs.Hex.{spaced_pairs}
use Rattle.uca_io.proofs.hex.send_spaced.Given as goal

abbrev pub invariant-loop-left : goal.invariant-loop-left
invariant-loop-left g l = record {
  sent : List ℕ;
  sends : Accepts (g.W.Writer.state l.fn.w) l.fn.out (g.W.Writer.state l.w) l.out sent;
  complete : sent ++ spaced_pairs l.left ≡ spaced_pairs l.bytes;
  room : accepted l.out + 3 * length l.left ≤ accepted l.fn.out + 3 * length l.bytes;
}

abbrev pub decreases-loop-left : goal.decreases-loop-left
decreases-loop-left g l = length l.left
