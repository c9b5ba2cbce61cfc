use Rattle.std.proofs.Common.{rules}
use Rattle.uca_io.proofs.reader.ReadingReader.pull.Goals as goal

pub returns-in-Err-clause-failures : goal.returns-in-Err-clause-failures
returns-in-Err-clause-failures g c = search rules
