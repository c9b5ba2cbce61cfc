use Rattle.std.proofs.Common.{◌-◌, ◌≤◌, drop, sym, subst}
use Rattle.uca_window.proofs.WindowCalls.{window_of, Changed, dropped}
use Rattle.uca_window.proofs.window.Window.drop_front.Goals as goal

left : (c : goal.After-self-1) → Changed (drop c.args.n) c.args.self.now (window_of c.drop_points.new.points.items (c.self.inside.closed - c.args.n) c.self.inside.longest c.self.inside.ended)
left c =
    let w = window_of c.self.inside.points.items c.self.inside.closed c.self.inside.longest c.self.inside.ended in
    subst (λ v. Changed (drop c.args.n) v (window_of c.drop_points.new.points.items (w.closed - c.args.n) w.longest w.ended)) c.self.view_is
    (subst (λ l. Changed (drop c.args.n) w (window_of l (w.closed - c.args.n) w.longest w.ended)) (sym c.drop_points.ensures)
    (dropped w c.args.n c.self.invariant (subst (λ v. c.args.n ≤ v.closed) (sym c.self.view_is) c.requires)))

pub invariant_of-self : goal.invariant_of-self
invariant_of-self c = (left c).window

pub returns-clause-valid : goal.returns-clause-valid
returns-clause-valid c = (left c).window

pub returns-clause-rest : goal.returns-clause-rest
returns-clause-rest c = (left c).rest
