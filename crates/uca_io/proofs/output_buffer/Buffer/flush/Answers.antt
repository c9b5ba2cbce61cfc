use Rattle.std.proofs.Common.{rules}
use Rattle.uca_io.proofs.output_buffer.Buffer.flush.Goals as goal

pub returns-in-Err-clause-all : goal.returns-in-Err-clause-all
returns-in-Err-clause-all g c = search rules
