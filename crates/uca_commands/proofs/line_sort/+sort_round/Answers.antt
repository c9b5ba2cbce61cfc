use Rattle.std.proofs.Common.{◌≡◌, ◌+◌, ◌-◌, ◌*◌, arith}
use Rattle.uca_commands.proofs.LineSortLemmas.{AreFronts, AreFronts-sorted, RunsSorted-all, RunsSorted-more, SharesFront-next, SortsLines-round}
use Rattle.uca_commands.proofs.line_sort.+sort_round.Goals as goal

pub sort_round-requires : goal.sort_round-requires
sort_round-requires t c =
    let are : AreFronts c.args.of.now (8 * c.args.round) c.requires.key c.sort_by_front.new.lines =
    AreFronts-sorted c.args.of.now (8 * c.args.round) c.requires.key c.args.lines.now c.take_fronts.new.lines c.sort_by_front.new.lines c.requires.each c.take_fronts.ensures.same c.take_fronts.ensures.fronts c.in_ok-sort_by_front.ensures.sorts in
    let size : c.loop-from.from + c.run_size.result - c.loop-from.from ≡ c.run_size.result = omega arith in
    let depth : 8 * (c.args.round + 1) ≡ 8 * c.args.round + 8 = omega arith in
    (omega arith, rw (size, depth) (SharesFront-next c.args.of.now (8 * c.args.round) c.requires.key _ c.loop-from.lines c.loop-from.from c.run_size.result are c.loop-from.invariant c.run_size.ensures))

pub loop-from-preserved : goal.loop-from-preserved
loop-from-preserved t c =
    let are : AreFronts c.args.of.now (8 * c.args.round) c.requires.key c.sort_by_front.new.lines =
    AreFronts-sorted c.args.of.now (8 * c.args.round) c.requires.key c.args.lines.now c.take_fronts.new.lines c.sort_by_front.new.lines c.requires.each c.take_fronts.ensures.same c.take_fronts.ensures.fronts c.in_ok-sort_by_front.ensures.sorts in
    let size : c.loop-from.from + c.run_size.result - c.loop-from.from ≡ c.run_size.result = omega arith in
    rw size (RunsSorted-more c.args.of.now (8 * c.args.round) c.requires.key _ c.loop-from.lines c.loop-from.from c.run_size.result c.sort_round.new.lines are c.loop-from.invariant c.run_size.ensures (rw size at c.in_ok-sort_round.ensures.sorts) (rw size at c.in_ok-sort_round.ensures.len))

pub returns-clause-sorts : goal.returns-clause-sorts
returns-clause-sorts t c =
    SortsLines-round c.args.of.now (8 * c.args.round) c.args.lines.now c.take_fronts.new.lines c.sort_by_front.new.lines c.loop-from.lines c.take_fronts.ensures.same c.take_fronts.ensures.fronts c.in_ok-sort_by_front.ensures.sorts
    (RunsSorted-all c.args.of.now c.sort_by_front.new.lines c.loop-from.lines c.loop-from.from c.loop-from.invariant c.loop-from-test.false)
