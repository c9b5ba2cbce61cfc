use Rattle.std.proofs.Common.{◌-◌, ◌<◌, get_or, sym, subst}
use Rattle.std.specs.List.{remove}
use Rattle.unicode.specs.CanonicalCombiningClass.{canonical_combining_class}
use Rattle.uca_window.proofs.WindowCalls.{window_of, Changed, removed}
use Rattle.uca_window.proofs.window.Window.remove.Goals as goal

left : (c : goal.After-self-1) → Changed (λ l. remove l c.args.at) c.args.self.now (window_of c.remove.new.self.items (c.self.inside.closed - 1) c.self.inside.longest c.self.inside.ended)
left c =
    let w = window_of c.self.inside.points.items c.self.inside.closed c.self.inside.longest c.self.inside.ended in
    let mark : 0 < canonical_combining_class (get_or w.points c.args.at 0) = subst (λ v. 0 < canonical_combining_class (get_or v.points c.args.at 0)) (sym c.self.view_is) c.requires.nonstarter in
    subst (λ v. Changed (λ l. remove l c.args.at) v (window_of c.remove.new.self.items (w.closed - 1) w.longest w.ended)) c.self.view_is
    (subst (λ l. Changed (λ l. remove l c.args.at) w (window_of l (w.closed - 1) w.longest w.ended)) (sym c.remove.ensures.items)
    (removed w c.args.at c.self.invariant (subst (λ v. c.args.at < v.closed) (sym c.self.view_is) c.requires.closed) mark))

pub invariant_of-self : goal.invariant_of-self
invariant_of-self c = (left c).window

pub returns-clause-valid : goal.returns-clause-valid
returns-clause-valid c = (left c).window

pub returns-clause-rest : goal.returns-clause-rest
returns-clause-rest c = (left c).rest
