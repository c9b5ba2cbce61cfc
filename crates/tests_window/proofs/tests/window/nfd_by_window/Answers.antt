use Rattle.std.proofs.Common.{rules, ◌≡◌, ℕ, List, ◌++◌, ◌∙◌, ap, subst, sym, take, drop}
use Rattle.std.proofs.lemmas.List.{append_assoc, take-append-drop}
use Rattle.uca_model.specs.Source.{unread}
use Rattle.uca_model.specs.Window.{rest_of}
use Rattle.tests_window.proofs.tests.window.nfd_by_window.Goals as goal

-- what was taken out before, the front that is taken out now and what stays are what was taken out before and the rest
joined : (all rest points later whole : List ℕ) (n closed : ℕ) → n ≡ closed → take closed rest ≡ take closed points → later ≡ drop n rest → all ++ rest ≡ whole → (all ++ take n points) ++ later ≡ whole
joined all rest points later whole n closed is front stays before =
    append_assoc all (take n points) later
    ∙ ap (λ l. all ++ (take n points ++ l)) stays
    ∙ ap (λ l. all ++ (l ++ drop n rest)) (sym (subst (λ k. take k rest ≡ take k points) (sym is) front))
    ∙ ap (λ l. all ++ l) (take-append-drop n rest)
    ∙ before

pub loop-window-preserved : goal.loop-window-preserved
loop-window-preserved g c =
    let left = unread (g.S.Source.state c.loop-window.source) in
    let rest = rest_of c.loop-window.window left in
    let later = rest_of c.fill-in-loop-window.new.self (unread (g.S.Source.state c.fill-in-loop-window.new.source)) in
    record {
      fits = search rules;
      all = ap (λ l. l ++ later) c.in_ok-extend_from_slice.ensures.items
          ∙ joined c.loop-window.all.items rest c.points.result.now later _ c.closed-n.result c.loop-window.window.closed c.closed-n.ensures.value
          ((c.closed-n.ensures.front left c.loop-window.invariant.fits).front ∙ ap (take c.loop-window.window.closed) (sym c.points.ensures.value))
          (c.fill-in-loop-window.ensures.rest ∙ (c.drop_front.ensures.rest left c.loop-window.invariant.fits).1)
          c.loop-window.invariant.all;
      enough = search rules;
    }
