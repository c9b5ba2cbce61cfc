use Rattle.std.proofs.Common.{◌∙◌, arith}
use Rattle.std.proofs.Math.Seq.{map-set_same}
use Rattle.std.proofs.lemmas.List.Elements.{AllWithin-more_set}
use Rattle.uca_commands.specs.KeyedLines.{number_of}
use Rattle.uca_commands.specs.LineSorting.{ShowsFront}
use Rattle.uca_commands.proofs.line_sort.take_fronts.Goals as goal

pub loop-at-preserved : goal.loop-at-preserved
loop-at-preserved c = record {
  same = map-set_same number_of _ _ _ _ c.with_front.ensures.same ∙ c.loop-at.invariant.same;
  fronts = AllWithin-more_set c.loop-at.lines c.loop-at.at c.with_front.result (omega (arith, c.loop-at-test.true, c.loop-at.auto.lines)) (ShowsFront c.args.of.now c.args.depth) c.loop-at.invariant.fronts c.with_front.ensures.front;
}
