use Rattle.uca_io.proofs.ProgressLemmas.{line_long}
use Rattle.uca_io.proofs.line_reader.hold.Goals as goal

pub returns-else-extend_held-clause-goes : goal.returns-else-extend_held-clause-goes
returns-else-extend_held-clause-goes g c = λ a end more.
    let p = c.args.progress.now in
    line_long g.S.LineSink.fold end p.number a p.held.items c.args.part.now more c.requires (c.extend_held.ensures.full c.if-extend_held.false)
