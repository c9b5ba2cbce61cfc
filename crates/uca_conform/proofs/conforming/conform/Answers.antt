use Rattle.std.proofs.Common.{refl, subst}
use Rattle.uca_io.specs.LineFold.{with_text}
use Rattle.uca_io.specs.LineReader.{GivesText}
use Rattle.uca_io.specs.Reader.{ReaderState}
use Rattle.uca_conform.specs.Comparing.{Compared, Comparing, comparing_fold}
use Rattle.uca_conform.specs.TestReading.{state_of}
use Rattle.uca_conform.proofs.ReportLemmas.{gives_report}
use Rattle.uca_conform.proofs.conforming.conform.Goals as goal

pub returns-in-Ok-clause-reads : goal.returns-in-Ok-clause-reads
returns-in-Ok-clause-reads g c =
    let old : ReaderState = g.R.Reader.state c.args.r.now in
    let new : ReaderState = g.R.Reader.state c.read_lines.new.reader in
    let after : Comparing = record { table = c.read_lines.new.sink.table.now; settings = c.read_lines.new.sink.settings; sum = state_of c.read_lines.new.sink.comparison } in
    gives_report c.args.t.now c.args.s old new after c.read_lines.new.sink.comparison.report
    (subst (λ (sum : Compared). GivesText (with_text comparing_fold (record { table = c.args.t.now; settings = c.args.s; sum = sum })) old new after) c.nothing_compared.ensures.state c.in-Ok.ensures.reads) refl
