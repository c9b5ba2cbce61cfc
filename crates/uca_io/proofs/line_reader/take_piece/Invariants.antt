use Rattle.std.proofs.Common.{length}
use Rattle.uca_io.specs.LineProgress.{GoesOn}
use Rattle.uca_io.proofs.line_reader.take_piece.Given as goal

abbrev pub invariant-loop-part : goal.invariant-loop-part
invariant-loop-part g l = record {
  goes : GoesOn g.S.LineSink.fold l.fn.progress (g.S.LineSink.state l.fn.sink) l.piece l.progress (g.S.LineSink.state l.sink) l.rest;
  ready : g.S.LineSink.ready l.sink l.progress.number;
}

abbrev pub decreases-loop-part : goal.decreases-loop-part
decreases-loop-part g l = length l.rest
