use Rattle.uca_table.proofs.Common.{arith, get_or_read, common_steps}
use Rattle.uca_table.proofs.MovedForward.{brought-front}
use Rattle.uca_table.proofs.MatchLemmas.{IsExtending-takes, IsExtending-passes}
use Rattle.uca_table.proofs.matching.extend.Goals as goal

pub loop-at-preserved-then-not-takes : goal.loop-at-preserved-then-not-takes
loop-at-preserved-then-not-takes g c = record {
  extending =
      IsExtending-passes c.loop-at.invariant.extending c.index-text-at.result c.canonical_combining_class-class.result c.max-high.result c.takes.result (omega (arith, c.loop-at.auto.text, c.loop-at-test.true)) c.index-text-at.is
      c.canonical_combining_class-class.ensures c.if-class-eq0.false (cc) (cc) c.max-high.ensures;
  path = grind (arith, common_steps);
  set = cc;
}

pub loop-at-preserved : goal.loop-at-preserved
loop-at-preserved g c = record {
  extending =
      IsExtending-takes c.loop-at.invariant.extending c.bring_forward.new.text c.index-text-at.result c.canonical_combining_class-class.result c.takes.result (omega (arith, c.loop-at.auto.text, c.loop-at-test.true)) c.index-text-at.is
      c.canonical_combining_class-class.ensures c.if-class-eq0.false (cc) (cc) c.bring_forward.ensures;
  path = grind (arith, common_steps, brought-front, get_or_read);
  set = cc;
}
