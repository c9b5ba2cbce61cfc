use Rattle.std.proofs.Common.{◌≡◌, ◌<◌, ◌∷◌, false, sym, subst, ap, ◌∙◌, arith}
use Rattle.uca_model.specs.Source.{unread}
use Rattle.uca_model.specs.Window.{Fits, ReadsOn, is_wanting}
use Rattle.uca_window.proofs.FormLemmas.{ordered-IsInForm}
use Rattle.uca_window.proofs.WindowCalls.{window_of, room_for, Steps-char, reads-char, rest-char, wants-few, after_read-char}
use Rattle.uca_window.proofs.window.Window.read.Goals as goal
use Rattle.std.proofs.lemmas.Grind.{common_steps}

pub push_decomposed-self-inside-requires-clause-room : goal.push_decomposed-self-inside-requires-clause-room
push_decomposed-self-inside-requires-clause-room g c = grind (arith, common_steps, window_of, wants-few, room_for)

pub push_decomposed-self-inside-requires-clause-ordered : goal.push_decomposed-self-inside-requires-clause-ordered
push_decomposed-self-inside-requires-clause-ordered g c = ordered-IsInForm _ c.self.invariant.form

pub invariant_of-self : goal.invariant_of-self
invariant_of-self g c =
    let w = window_of c.self.inside.points.items c.self.inside.closed c.self.inside.longest c.self.inside.ended in
    let given = c.in-Some.ensures in
    let fits : Fits w (c.in-Some.c ∷ unread (g.S.Source.state c.next-given.new.self)) = subst (Fits w) given.value.0 (subst (λ v. Fits v (unread (g.S.Source.state c.args.source.now))) (sym c.self.view_is) c.requires.fits) in
    let few : w.closed < w.longest = (wants-few w (ap is_wanting c.self.view_is ∙ c.requires.wants)).0 in
    let runs : w.ended ≡ false = (wants-few w (ap is_wanting c.self.view_is ∙ c.requires.wants)).1 in
    (Steps-char w c.in-Some.c _ _ _ c.self.invariant fits few runs c.push_decomposed-self-inside.ensures.points c.push_decomposed-self-inside.ensures.segments).0

pub returns-in-Some-clause-valid : goal.returns-in-Some-clause-valid
returns-in-Some-clause-valid g c = invariant_of-self g c

pub returns-in-Some-clause-reads : goal.returns-in-Some-clause-reads
returns-in-Some-clause-reads g c =
    let w = window_of c.self.inside.points.items c.self.inside.closed c.self.inside.longest c.self.inside.ended in
    let fits : Fits w (unread (g.S.Source.state c.args.source.now)) = subst (λ v. Fits v (unread (g.S.Source.state c.args.source.now))) (sym c.self.view_is) c.requires.fits in
    let few : w.closed < w.longest = (wants-few w (ap is_wanting c.self.view_is ∙ c.requires.wants)).0 in
    let runs : w.ended ≡ false = (wants-few w (ap is_wanting c.self.view_is ∙ c.requires.wants)).1 in
    subst (λ v. ReadsOn v (g.S.Source.state c.args.source.now) (window_of c.push_decomposed-self-inside.new.points.items c.push_decomposed-self-inside.result w.longest w.ended) (g.S.Source.state c.next-given.new.self)) c.self.view_is
    (reads-char w _ _ c.in-Some.c _ _ c.self.invariant fits few runs c.in-Some.ensures c.push_decomposed-self-inside.ensures.points c.push_decomposed-self-inside.ensures.segments)

pub returns-in-Some-clause-rest : goal.returns-in-Some-clause-rest
returns-in-Some-clause-rest g c = grind (arith, common_steps, window_of, rest-char)

pub returns-in-Some-clause-next : goal.returns-in-Some-clause-next
returns-in-Some-clause-next g c = grind (arith, common_steps, window_of, after_read-char)
