use Rattle.std.proofs.Common.{◌≡◌, ◌++◌, map, drop}
use Rattle.uca_weights.specs.Element.{weight}
use Rattle.uca_model.specs.Gap.{with_gap}
use Rattle.uca_tailor.proofs.anchor.base_after.Given as goal

abbrev pub invariant-loop-element : goal.invariant-loop-element
invariant-loop-element l = l.base.items ++ map (with_gap l.level (weight l.level l.last)) (drop l.element-index l.before) ≡ map (with_gap l.level (weight l.level l.last)) l.before
