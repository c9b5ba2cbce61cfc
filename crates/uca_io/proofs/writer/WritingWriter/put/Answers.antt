use Rattle.std.proofs.Common.{rules}
use Rattle.uca_io.proofs.writer.WritingWriter.put.Goals as goal

pub returns-in-Err-clause-bytes : goal.returns-in-Err-clause-bytes
returns-in-Err-clause-bytes g c = search rules
