use Rattle.uca_io.specs.declared.line_reader.LineCause.TheVariants as lines
use Rattle.uca_conform.specs.TestReading.{test_cause}
use Rattle.uca_conform.specs.declared.conforming.ConformCause.TheVariants.{LineTooLong, TooLarge}
use Rattle.uca_conform.proofs.ReportLemmas.{line_refused, not_read, over_limit}
use Rattle.uca_conform.proofs.conforming.cause_of_lines.Goals as goal

pub returns-in-LineTooLong : goal.returns-in-LineTooLong
returns-in-LineTooLong c = λ t s old new line stops. over_limit t s old new line c.args.cause lines.LineTooLong (test_cause LineTooLong) c.in-LineTooLong.is (λ x. x) stops

pub returns-in-TooLarge : goal.returns-in-TooLarge
returns-in-TooLarge c = λ t s old new line stops. over_limit t s old new line c.args.cause lines.TooLarge (test_cause TooLarge) c.in-TooLarge.is (λ x. x) stops

pub returns-in-Read : goal.returns-in-Read
returns-in-Read c = λ t s old new line stops. not_read t s old new line c.args.cause c.in-Read.is stops

pub returns-in-Refused : goal.returns-in-Refused
returns-in-Refused c = λ t s old new line stops. line_refused t s old new line c.args.cause c.in-Refused.cause c.in-Refused.is stops
