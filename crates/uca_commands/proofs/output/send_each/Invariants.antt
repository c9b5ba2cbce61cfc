use Rattle.std.proofs.Common.{◌≡◌, ◌≤◌, ◌+◌, ◌*◌, List, ℕ, ◌++◌, length, drop, flat_map}
use Rattle.uca_model.specs.CanonicalText.{element_text}
use Rattle.uca_io.specs.OutputBuffer.{accepted, Accepts}
use Rattle.uca_commands.proofs.output.send_each.Given as goal

abbrev pub invariant-loop-element : goal.invariant-loop-element
invariant-loop-element g l = record {
  sent : List ℕ;
  sends : Accepts (g.W.Writer.state l.fn.w) l.fn.out (g.W.Writer.state l.w) l.out sent;
  complete : sent ++ flat_map element_text (drop l.element-index l.elements) ≡ flat_map element_text l.elements;
  room : accepted l.out + 17 * length (drop l.element-index l.elements) ≤ accepted l.fn.out + 17 * length l.elements;
}
