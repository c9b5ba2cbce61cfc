use Rattle.std.proofs.Common.{◌<◌, length, arith}
use Rattle.std.proofs.lemmas.Bool.Decides.{nat_tests}
use Rattle.uca_commands.proofs.LinesLemmas.{other_lines}
use Rattle.uca_commands.proofs.lines.is_one_line.Goals as goal

pub returns-clause-other : goal.returns-clause-other
returns-clause-other c ended =
    let more : 0 < length c.first_line.result.1.now = grind (arith, nat_tests) in
    other_lines c.args.bytes.now c.first_line.result.0.now c.first_line.result.1.now c.first_line.ensures.parts more
