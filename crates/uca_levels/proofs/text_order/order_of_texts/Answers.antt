use Rattle.std.proofs.Common.{arith, chars, sym, ◌∙◌}
use Rattle.uca_model.proofs.LevelLemmas.{levels-within}
use Rattle.uca_levels.proofs.ReadsLemmas.{from_ne}
use Rattle.uca_levels.proofs.LevelsFromCut.{undecided-first, decided-here}
use Rattle.uca_levels.proofs.WithoutFront.{equal-texts}
use Rattle.uca_levels.proofs.text_order.order_of_texts.Goals as goal
use Rattle.std.proofs.lemmas.Grind.{common_steps}

pub returns-then-common-b : goal.returns-then-common-b
returns-then-common-b c = grind (arith, common_steps, equal-texts)

pub returns-then-is_ne : goal.returns-then-is_ne
returns-then-is_ne c =
    sym (decided-here c.args.t.now c.args.s (chars c.args.a.now) (chars c.args.b.now) 1 _ (undecided-first c.args.t.now c.args.s (chars c.args.a.now) (chars c.args.b.now)) (levels-within c.args.s.strength).0 c.in-Some.ensures (from_ne _ (sym c.is_ne.ensures ∙ c.if-is_ne.true))).0
