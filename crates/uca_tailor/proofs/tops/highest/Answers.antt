use Rattle.std.proofs.Common.{◌≡◌, ◌≤◌, true, false, sym, ◌∙◌, arith}
use Rattle.uca_tailor.proofs.TopLemmas.{IsBelow-next, above_is}
use Rattle.uca_tailor.proofs.tops.highest.Goals as goal
use Rattle.uca_tailor.proofs.tops.highest.Goals.{then-moves, else-moves}

pub loop-element-preserved : goal.loop-element-preserved
loop-element-preserved c = elim c.if-moves.branch [
  | then-moves w ↦
      record {
        below = IsBelow-next c.args.level c.loop-element.highest c.if-moves.highest c.weight-weight.result c.loop-element.element-index c.args.elements.now _ c.moves.result c.loop-element-test.true c.loop-element.invariant.below c.weight-weight.ensures c.moves.ensures
            (λ _. w.highest-is) (λ no. absurd (let h : c.moves.result ≡ true = w.if-moves.true in cc));
        more = (let h : c.loop-element.highest ≤ c.weight-weight.result = above_is c.args.level c.loop-element.highest c.weight-weight.result (sym c.moves.ensures ∙ w.if-moves.true) in omega (arith, h, w.highest-is, c.loop-element.invariant.more));
      }
  | else-moves w ↦
      record {
        below = IsBelow-next c.args.level c.loop-element.highest c.if-moves.highest c.weight-weight.result c.loop-element.element-index c.args.elements.now _ c.moves.result c.loop-element-test.true c.loop-element.invariant.below c.weight-weight.ensures c.moves.ensures
            (λ yes. absurd (let h : c.moves.result ≡ false = w.if-moves.false in cc)) (λ _. w.highest-is);
        more = omega (arith, w.highest-is, c.loop-element.invariant.more);
      }
]
