use Rattle.std.proofs.Common.{◌≡◌, ◌≤◌, ◌*◌, List, ℕ, ◌++◌, drop, flat_map}
use Rattle.uca_model.specs.CanonicalText.{range_line}
use Rattle.uca_io.specs.OutputBuffer.{accepted, Accepts}
use Rattle.uca_allkeys.proofs.canonical.send_ranges.Given as goal

abbrev pub invariant-loop-range : goal.invariant-loop-range
invariant-loop-range g l = record {
  sent : List ℕ;
  sends : Accepts (g.W.Writer.state l.fn.writer) l.fn.out (g.W.Writer.state l.writer) l.out sent;
  complete : sent ++ flat_map range_line (drop l.range-index l.ranges) ≡ flat_map range_line l.ranges;
  room : accepted l.out ≤ 4096 * l.range-index;
}
