use Rattle.std.specs.FinMap.{entries}
use Rattle.std.specs.List.{AllByRecursion}
use Rattle.uca_tailor.specs.declared.tops.Tops.{Tops}
use Rattle.uca_tailor.specs.Tops.{HoldsElements, IsAtMost}
use Rattle.uca_tailor.proofs.tops.Tops.of.Given as goal

abbrev pub invariant-loop-elements : goal.invariant-loop-elements
invariant-loop-elements l = record {
  can : (goal.iterator-loop-elements).can_next l.elements-iterator;
  finite : (goal.iterator-loop-elements).is_finite l.elements-iterator;
  holds : (more : Tops) → IsAtMost l.tops more → AllByRecursion (λ e. HoldsElements more e.1) l.elements-iterator → AllByRecursion (λ e. HoldsElements more e.1) (entries l.t.entries);
}
