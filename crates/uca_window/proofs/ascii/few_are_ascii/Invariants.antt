use Rattle.std.proofs.Common.{ℕ, ◌<◌, slice_index}
use Rattle.uca_window.proofs.ascii.few_are_ascii.Given as goal

abbrev pub invariant-loop-b : goal.invariant-loop-b
invariant-loop-b l = (k : ℕ) → k < l.b-index → slice_index l.bytes k < 0x80
