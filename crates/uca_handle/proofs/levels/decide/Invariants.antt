use Rattle.uca_window.specs.Passage.{text_of}
use Rattle.uca_handle.proofs.LevelSteps.{NoneBefore}
use Rattle.uca_handle.proofs.levels.decide.Given as goal

abbrev pub invariant-loop-level : goal.invariant-loop-level
invariant-loop-level l = NoneBefore l.t l.s.weighting (text_of l.a) (text_of l.b) l.level
