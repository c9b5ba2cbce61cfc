use Rattle.std.proofs.Common.{◌≡◌, ℕ, ◌-◌, ◌<◌, drop, Some, get_or, ap, subst, ◌∙◌, arith, get_or-take}
use Rattle.std.proofs.Math.Seq.{drop-cons}
use Rattle.uca_model.specs.Source.{SourceState, unread}
use Rattle.uca_model.specs.Window.{WindowState, IsWindow, rest_of, ChangesRest, ReadsOn, ShowsFront}
use Rattle.uca_match.specs.Yields.{Yields}
use Rattle.uca_match.proofs.WindowMatches.{closed-within}
use Rattle.uca_levels.specs.RemainingWeights.{itself}
use Rattle.uca_levels.proofs.points.Points.next.Goals as goal
use Rattle.std.proofs.lemmas.Grind.{common_steps}

-- the first closed point of a window is the next code point of its text
Yields-point : (w mid new : WindowState) (before after : SourceState) (c : ℕ) → ReadsOn w before mid after → rest_of mid (unread after) ≡ rest_of w (unread before) → IsWindow mid → 0 < mid.closed
    → ShowsFront mid (rest_of mid (unread after)) → c ≡ get_or mid.points 0 c → new ≡ record mid { points = drop 1 mid.points; closed = mid.closed - 1 } → ChangesRest (drop 1) mid new
    → Yields rest_of itself w before (Some c) new after
Yields-point w mid new before after c reads rest valid some shows is becomes changes = grind (arith, common_steps, get_or-take, closed-within, drop-cons)

pub returns-clause-yields : goal.returns-clause-yields
returns-clause-yields g c =
    let point = c.index-points-0.result in
    subst (λ w. Yields rest_of itself w (g.S.Source.state c.args.source.now) (Some point) c.drop_front.new.self (g.S.Source.state c.fill.new.source)) c.self.view_is
    (Yields-point c.self.inside.window c.fill.new.self c.drop_front.new.self _ _ point c.fill.ensures.reads c.fill.ensures.rest c.fill.ensures.valid (omega (arith, c.if-closed-eq0.false, c.closed.ensures.value))
    (c.closed.ensures.front _ c.fill.ensures.reads.fits) (c.index-points-0.is ∙ ap (λ l. get_or l 0 point) c.points.ensures.value) c.drop_front.ensures.points c.drop_front.ensures.rest)
