use Rattle.std.proofs.Common.{subst, rules}
use Rattle.uca_io.specs.LineReader.{StopsBy}
use Rattle.uca_io.specs.declared.line_reader.LineCause.{LineCause}
use Rattle.uca_model.specs.TableText.{no_lines, table_fold}
use Rattle.uca_allkeys.specs.declared.faults.ReadCause.{ReadCause}
use Rattle.uca_allkeys.specs.Faults.{read_cause, IsOfText}
use Rattle.uca_allkeys.proofs.ReadingLemmas.{too_long}
use Rattle.uca_allkeys.proofs.read.fault_of_lines.Goals as goal

pub returns-in-LineTooLong : goal.returns-in-LineTooLong
returns-in-LineTooLong c = λ old new stops.
    too_long _ c.args.fault.line old new c.fault_at.ensures.cause c.fault_at.ensures.line (subst (λ (k : LineCause ReadCause). StopsBy table_fold read_cause IsOfText no_lines old new c.args.fault.line k) c.in-LineTooLong.is stops)

pub returns-in-Read : goal.returns-in-Read
returns-in-Read c = search rules
