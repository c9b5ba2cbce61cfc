use Rattle.std.proofs.Common.{arith}
use Rattle.std.proofs.lemmas.Bool.{and_parts}
use Rattle.uca_window.proofs.Utf8Lanes.{fine_utf8}
use Rattle.uca_window.proofs.utf8.are_fine_utf8.Goals as goal

pub returns-then-bytes : goal.returns-then-bytes
returns-then-bytes c = λ told.
    let parts = and_parts c.is_closed-closed.result c.few_are_fine.result told in
    fine_utf8 c.args.bytes.now (omega (arith, c.requires)) (c.few_are_fine.ensures parts.1) (c.is_closed-closed.ensures parts.0)

pub returns : goal.returns
returns c = λ told.
    let parts = and_parts c.is_closed-closed.result c.are_fine.result told in
    fine_utf8 c.args.bytes.now (omega (arith, c.requires)) (c.are_fine.ensures parts.1) (c.is_closed-closed.ensures parts.0)
