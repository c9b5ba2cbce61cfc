use Rattle.std.proofs.Common.{◌≡◌, ◌≤◌, ◌<◌, drop}
use Rattle.uca_weights.specs.declared.limits.TheConstants.{MAX_RUN}
use Rattle.uca_model.specs.SafeText.{longest_run_after}
use Rattle.uca_window.specs.Scan.{run_after}
use Rattle.uca_window.proofs.passage.run_through.Given as goal

abbrev pub invariant-loop-c : goal.invariant-loop-c
invariant-loop-c l = record {
  within : l.run ≤ MAX_RUN;
  ends : run_after l.run (drop l.c-index l.points) ≡ run_after l.fn.count l.points;
  short : longest_run_after l.run (drop l.c-index l.points) ≤ MAX_RUN → longest_run_after l.fn.count l.points ≤ MAX_RUN;
  long : MAX_RUN < longest_run_after l.run (drop l.c-index l.points) → MAX_RUN < longest_run_after l.fn.count l.points;
}
