use Rattle.std.proofs.Common.{◌≡◌, ◌+◌, drop, ap, ◌≤◌, length, arith}
use Rattle.std.proofs.lemmas.Simd.{length-chunk}
use Rattle.std.proofs.lemmas.List.{drop_all}
use Rattle.uca_window.specs.Passing.{added_by}
use lib.Lanes.{chunk}
use Rattle.uca_window.proofs.RunScan.{added-left, added-few}
use Rattle.uca_window.proofs.passing.adds_few_by.Goals as goal

pub overflow_add-count : goal.overflow_add-count
overflow_add-count c =
    let v = chunk c.each.at 32 c.args.bytes.now in
    let size : length v ≡ 32 = length-chunk c.each.at 32 c.args.bytes.now (omega (arith, c.each.invariant.end, c.each.invariant.within)) in
    let few : c.each.count ≤ 57 = c.each.invariant.few in
    omega (arith, added-few c.args.coarsely v, few)

pub returns-then-at-last : goal.returns-then-at-last
returns-then-at-last c = λ _.
    let bytes = c.args.bytes.now in
    let none : added_by c.args.coarsely (drop (c.each.at + 32) bytes) ≡ 0 = ap (added_by c.args.coarsely) (drop_all (c.each.at + 32) bytes (omega (arith, c.each.invariant.end, c.if-at-last.true))) in
    omega (arith, added-left c.args.coarsely bytes c.each.at (c.each.at + 32) (omega arith), c.added_in-count.ensures, c.each.invariant.counted, c.if-count-gt-STRIDE.false)

pub each-preserved : goal.each-preserved
each-preserved c = record {
  end = c.each.invariant.end;
  within = omega (arith, c.min-at.ensures);
  counted = omega (arith, added-left c.args.coarsely c.args.bytes.now c.each.at c.min-at.result (omega (arith, c.min-at.ensures)), c.added_in-count.ensures, c.each.invariant.counted);
  few = omega (arith, c.if-count-gt-STRIDE.false);
}
