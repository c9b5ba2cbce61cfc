use Rattle.std.proofs.Common.{◌+◌, arith}
use Rattle.std.proofs.lemmas.Bool.{and_parts}
use Rattle.uca_window.proofs.Utf8Lanes.{joined}
use Rattle.uca_window.proofs.utf8.are_fine.Goals as goal

pub each-init : goal.each-init
each-init c =
    let parts = and_parts c.are_first_fine.result c.are_fine_at.result c.if-not-are_first_fine-are_fine_at.false in
    record {
      end = omega (arith, c.requires);
      begun = omega (arith, c.requires, c.min-at.ensures);
      within = omega (arith, c.min-at.ensures);
      fine = joined _ 0 16 c.min-at.result (c.min-at.result + 16) (omega (arith, c.min-at.ensures)) (c.are_first_fine.ensures parts.0) (c.are_fine_at.ensures parts.1);
    }

pub each-preserved : goal.each-preserved
each-preserved c =
    let bytes = c.args.bytes.now in
    let parts = and_parts c.are_fine_at-in-each.result c.are_fine_at-in-each-2.result c.if-not-are_fine_at.false in
    let next = joined _ 0 (c.each.at + 16) c.min-next.result (c.min-next.result + 16) (omega (arith, c.min-next.ensures)) c.each.invariant.fine (c.are_fine_at-in-each.ensures parts.0) in
    record {
      end = c.each.invariant.end;
      begun = omega (arith, c.each.invariant.begun, c.each-test.true, c.min-at-in-each.ensures);
      within = omega (arith, c.min-at-in-each.ensures);
      fine = joined _ 0 (c.min-next.result + 16) c.min-at-in-each.result (c.min-at-in-each.result + 16) (omega (arith, c.min-next.ensures, c.min-at-in-each.ensures)) next (c.are_fine_at-in-each-2.ensures parts.1);
    }
