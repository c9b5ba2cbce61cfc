use Rattle.std.proofs.Common.{[], ap, ◌∙◌, sym}
use Rattle.std.proofs.lemmas.List.{append-nil}
use Rattle.uca_io.specs.LineFold.{stops}
use Rattle.uca_io.specs.LineProgress.{remaining, fault_by}
use Rattle.uca_io.proofs.ProgressLemmas.{last_line, fault-change}
use Rattle.uca_io.proofs.line_reader.too_large.Goals as goal

pub returns-in-Ok-clause-fault : goal.returns-in-Ok-clause-fault
returns-in-Ok-clause-fault g c =
    let f = g.S.LineSink.fold in
    let old = c.args.progress.now in
    let new = c.take_piece.new.progress in
    let end = stops f.large in
    ap (remaining f end old (g.S.LineSink.state c.args.sink.now)) (sym (append-nil c.args.piece.now)) ∙ c.in-Ok.ensures.goes.same end []
    ∙ last_line f end new.number (g.S.LineSink.state c.take_piece.new.sink) new.held.items c.in-Ok.ensures.goes.held c.in-Ok.ensures.goes.short

pub returns-in-Err-clause-fault : goal.returns-in-Err-clause-fault
returns-in-Err-clause-fault g c =
    let f = g.S.LineSink.fold in
    let end = stops f.large in
    fault-change (fault_by f g.S.LineSink.fault_of c.in-Err.fault.cause) _ _
    (λ cause faulty. ap (remaining f end c.args.progress.now (g.S.LineSink.state c.args.sink.now)) (sym (append-nil c.args.piece.now)) ∙ faulty end []) c.in-Err.ensures.goes
