use Rattle.std.proofs.Common.{List, ℕ, rules, sym, ap, ◌∙◌, eqb-true, length}
use Rattle.uca_io.specs.LineFold.{at_line}
use Rattle.uca_io.specs.LineProgress.{fault_by}
use Rattle.uca_io.proofs.ProgressLemmas.{last_filled, last_none, fault-change}
use Rattle.uca_io.proofs.line_reader.take_last.Goals as goal

pub returns-then-is_empty-clause-last : goal.returns-then-is_empty-clause-last
returns-then-is_empty-clause-last g c =
    let p = c.args.progress.now in
    last_none g.S.LineSink.fold p.number (g.S.LineSink.state c.args.sink.now) p.held.items c.requires.open c.requires.short (eqb-true (length p.held.items) 0 (sym c.is_empty.ensures ∙ c.if-is_empty.true))

pub returns-in-Ok-clause-last : goal.returns-in-Ok-clause-last
returns-in-Ok-clause-last g c =
    let p = c.args.progress.now in let f = g.S.LineSink.fold in let a = g.S.LineSink.state c.args.sink.now in
    last_filled f p.number a p.held.items c.requires.open c.requires.short (search rules)
    ∙ ap (λ (line : List ℕ). at_line p.number (f.step p.number a line)) (sym c.as_slice.ensures.value) ∙ ap (at_line p.number) c.in-Ok.ensures.adds

pub returns-in-Err-clause-last : goal.returns-in-Err-clause-last
returns-in-Err-clause-last g c =
    let p = c.args.progress.now in let f = g.S.LineSink.fold in let a = g.S.LineSink.state c.args.sink.now in
    fault-change (fault_by f g.S.LineSink.fault_of c.in-Err.cause) _ _
    (λ cause is. last_filled f p.number a p.held.items c.requires.open c.requires.short (search rules)
    ∙ ap (λ (line : List ℕ). at_line p.number (f.step p.number a line)) (sym c.as_slice.ensures.value) ∙ ap (at_line p.number) is) c.in-Err.ensures.adds
