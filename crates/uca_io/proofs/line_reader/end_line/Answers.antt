use Rattle.std.proofs.Common.{◌∷◌, [], ℕ, arith, length-append, ap, length, sym, ◌∙◌}
use Rattle.uca_io.specs.LineFold.{fault_at}
use Rattle.uca_io.specs.LineProgress.{fault_by}
use Rattle.uca_io.specs.Lines.{line_feed}
use Rattle.uca_io.proofs.LineLemmas.{open_nil}
use Rattle.uca_io.proofs.ProgressLemmas.{line_ends, line_faulty, fault-change}
use Rattle.uca_io.proofs.line_reader.end_line.Goals as goal

pub returns-in-Ok-clause-goes : goal.returns-in-Ok-clause-goes
returns-in-Ok-clause-goes g c =
    let old = c.args.progress.now in
    let new = c.take_line.new.progress in
    record {
      same = λ end more. line_ends g.S.LineSink.fold end old.number new.number (g.S.LineSink.state c.args.sink.now) (g.S.LineSink.state c.take_line.new.sink) old.held.items c.args.part.now c.clear.new.self.items more c.requires.open c.in-Ok.ensures.line c.take_line.ensures.number c.clear.ensures;
      held = open_nil c.clear.new.self.items c.clear.ensures;
      short = omega (arith, ap (length {A = ℕ}) c.clear.ensures);
      count = omega (arith, c.take_line.ensures.number, length-append c.args.part.now (line_feed ∷ []), ap (length {A = ℕ}) c.clear.ensures);
    }

pub returns-in-Err-clause-goes : goal.returns-in-Err-clause-goes
returns-in-Err-clause-goes g c =
    let old = c.args.progress.now in
    let part = c.args.part.now in
    let f = g.S.LineSink.fold in
    let a = g.S.LineSink.state c.args.sink.now in
    fault-change (fault_by f g.S.LineSink.fault_of c.in-Err.cause) _ _
    (λ cause is end more. line_faulty f end old.number a cause old.held.items part more c.requires.open is ∙ ap (λ (n : ℕ). fault_at n cause) (sym c.take_line.ensures.number)) c.in-Err.ensures.line
