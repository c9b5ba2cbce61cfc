use Rattle.std.proofs.Common.{◌≡◌, ◌+◌, arith}
use Rattle.uca_levels.proofs.CommonFront.{common-fewer, common-in-first, common-in-second}
use Rattle.uca_levels.proofs.cut.common_by_blocks.Goals as goal

pub returns-then-common-lt-NARROW : goal.returns-then-common-lt-NARROW
returns-then-common-lt-NARROW c =
    common-in-first 8 c.args.a.now c.args.b.now c.each.at c.min-next.result c.common_in_blocks-common.result c.each.invariant.in_a c.each.invariant.in_b c.each.invariant.same
    (omega (arith, c.if-common-lt-NARROW.true)) c.common_in_blocks-common.ensures.same

pub returns-else-common-lt-NARROW : goal.returns-else-common-lt-NARROW
returns-else-common-lt-NARROW c =
    common-in-second 8 c.args.a.now c.args.b.now c.each.at c.min-next.result c.common_in_blocks-common.result _ c.each.invariant.in_a c.each.invariant.in_b c.each.invariant.same
    (omega (arith, c.min-next.ensures)) c.if-common-lt-NARROW.false c.common_in_blocks-common.ensures.within (omega (arith, c.if-common-lt-NARROW.false)) c.common_in_blocks-common.ensures.same

pub returns-then-next-last : goal.returns-then-next-last
returns-then-next-last c =
    let all : c.common_in_blocks-common.result ≡ 8 + 8 = omega (arith, c.if-common.false, c.common_in_blocks-common.ensures.within) in
    common-in-second 8 c.args.a.now c.args.b.now c.each.at c.min-next.result c.common_in_blocks-common.result _ c.each.invariant.in_a c.each.invariant.in_b c.each.invariant.same
    (omega (arith, c.min-next.ensures)) (omega (arith, all)) c.common_in_blocks-common.ensures.within (omega (arith, all, c.if-next-last.true)) c.common_in_blocks-common.ensures.same

pub each-preserved : goal.each-preserved
each-preserved c =
    let all : c.common_in_blocks-common.result ≡ 8 + 8 = omega (arith, c.if-common.false, c.common_in_blocks-common.ensures.within) in
    let both = common-in-second 8 _ _ c.each.at c.min-next.result c.common_in_blocks-common.result (c.min-next.result + 8) c.each.invariant.in_a c.each.invariant.in_b c.each.invariant.same
    (omega (arith, c.min-next.ensures)) (omega (arith, all)) c.common_in_blocks-common.ensures.within (omega (arith, all)) c.common_in_blocks-common.ensures.same in
    record {
      in_a = omega (arith, c.min-at.ensures, c.min-last.ensures, c.requires.in_a, c.requires.in_b);
      in_b = omega (arith, c.min-at.ensures, c.min-last.ensures, c.requires.in_a, c.requires.in_b);
      same = common-fewer _ _ (c.min-next.result + 8) c.min-at.result (omega (arith, c.min-at.ensures)) both;
    }
