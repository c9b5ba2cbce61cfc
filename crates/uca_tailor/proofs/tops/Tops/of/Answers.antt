use Rattle.std.proofs.Common.{subst, sym}
use Rattle.std.specs.List.{AllByRecursion}
use Rattle.uca_tailor.specs.Tops.{HoldsElements}
use Rattle.uca_tailor.proofs.TopLemmas.{HaveTops-entries, HoldsElements-more, IsAtMost-chain, IsAtMost-same}
use Rattle.uca_tailor.proofs.tops.Tops.of.Goals as goal

pub loop-elements-preserved : goal.loop-elements-preserved
loop-elements-preserved c = record {
  can = tt;
  finite = tt;
  holds = λ more h all. c.loop-elements.invariant.holds more (IsAtMost-chain c.loop-elements.tops c.over-tops.result more c.over-tops.ensures.more h)
      (subst (AllByRecursion (λ e. HoldsElements more e.1)) (sym c.in-Some.ensures.steps) (HoldsElements-more c.over-tops.result more c.in-Some.elements.now h c.over-tops.ensures.elements, all));
}

pub returns : goal.returns
returns c = HaveTops-entries c.loop-elements.tops c.args.t.now (c.loop-elements.invariant.holds c.loop-elements.tops (IsAtMost-same c.loop-elements.tops) (subst (AllByRecursion (λ e. HoldsElements c.loop-elements.tops e.1)) (sym c.in-None.ensures.steps.0) tt))
