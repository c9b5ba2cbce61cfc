use Rattle.std.proofs.Common.{◌≡◌, ◌≤◌, length, take}
use Rattle.uca_model.specs.Tailoring.{anchor_of}
use Rattle.uca_tailor.proofs.anchor.anchor_of.Given as goal

abbrev pub invariant-loop-n : goal.invariant-loop-n
invariant-loop-n l = (l.n ≤ length l.elements) × (anchor_of l.level (take l.n l.elements) ≡ anchor_of l.level l.elements)

abbrev pub decreases-loop-n : goal.decreases-loop-n
decreases-loop-n l = l.n
