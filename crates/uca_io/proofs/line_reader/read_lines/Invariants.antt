use Rattle.std.proofs.Common.{◌+◌, ◌≤◌}
use Rattle.uca_io.specs.LineProgress.{HasRead}
use Rattle.uca_io.specs.declared.limits.TheConstants.{MAX_INPUT}
use Rattle.uca_io.proofs.line_reader.read_lines.Given as goal

abbrev pub invariant-loop-progress : goal.invariant-loop-progress
invariant-loop-progress g l = record {
  has : HasRead g.S.LineSink.fold (g.S.LineSink.state l.fn.sink) (g.R.Reader.state l.fn.reader) (g.R.Reader.state l.reader) l.left l.progress (g.S.LineSink.state l.sink);
  calls : g.R.Reader.calls l.reader + l.left ≤ g.R.Reader.calls l.fn.reader + MAX_INPUT;
  ready : g.S.LineSink.ready l.sink l.progress.number;
}

abbrev pub decreases-loop-progress : goal.decreases-loop-progress
decreases-loop-progress g l = l.left
