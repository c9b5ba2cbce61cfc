use Rattle.std.proofs.Common.{◌∷◌, [], ◌++◌}
use Rattle.std.proofs.lemmas.Result.{err_from_is_err_and}
use Rattle.uca_io.specs.Lines.{line_feed}
use Rattle.uca_io.proofs.LineLemmas.{line_and_rest}
use Rattle.uca_io.proofs.ProgressLemmas.{GoesOn-step, StopsAt-front, goes_through}
use Rattle.uca_io.proofs.line_reader.take_piece.Goals as goal

pub loop-part-preserved : goal.loop-part-preserved
loop-part-preserved g c =
    let part = c.in-Some.part.now in
    let others = c.in-Some.others.now in
    record {
      goes = GoesOn-step g.S.LineSink.fold c.args.progress.now c.loop-part.progress c.end_line.new.progress (g.S.LineSink.state c.args.sink.now) (g.S.LineSink.state c.loop-part.sink) (g.S.LineSink.state c.end_line.new.sink) c.args.piece.now c.loop-part.rest.now (part ++ line_feed ∷ []) others c.loop-part.invariant.goes
          (line_and_rest c.loop-part.rest.now part others c.in-Some.ensures.0) c.in_ok-end_line.ensures.goes;
      ready = c.in_ok-end_line.ensures.ready;
    }

pub returns-in_err-end_line-clause-goes : goal.returns-in_err-end_line-clause-goes
returns-in_err-end_line-clause-goes g c =
    let part = c.in-Some.part.now in
    let others = c.in-Some.others.now in
    let p = err_from_is_err_and c.from_residual.result c.from_residual.ensures.1 in
    rw (p.1, p.2) (StopsAt-front g.S.LineSink.fold g.S.LineSink.fault_of c.args.progress.now c.loop-part.progress (g.S.LineSink.state c.args.sink.now) (g.S.LineSink.state c.loop-part.sink) c.args.piece.now c.loop-part.rest.now (part ++ line_feed ∷ []) others _ c.loop-part.invariant.goes
    (line_and_rest c.loop-part.rest.now part others c.in-Some.ensures.0) c.in_err-end_line.ensures.goes)

pub returns-clause-goes : goal.returns-clause-goes
returns-clause-goes g c =
    goes_through g.S.LineSink.fold g.S.LineSink.fault_of c.args.progress.now c.loop-part.progress c.hold.new.progress (g.S.LineSink.state c.args.sink.now) (g.S.LineSink.state c.loop-part.sink) (g.S.LineSink.state c.loop-part.sink) c.args.piece.now c.loop-part.rest.now c.hold.result c.loop-part.invariant.goes (c.hold.ensures.goes _)
