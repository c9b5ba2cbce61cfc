use Rattle.std.proofs.Common.{arith, ◌≡◌, [], Some, length, refl, sym, subst, ◌∙◌, eqb-true}
use Rattle.uca_match.specs.Found.{points_of}
use Rattle.uca_match.specs.Yields.{Yields}
use Rattle.uca_match.specs.RemainingElements.{ElementsState, remaining_elements, window_of, waiting_of}
use Rattle.uca_match.proofs.RemainingLemmas.{none_waits, Yields-end, Yields-match}
use Rattle.uca_match.proofs.elements.Elements.next.Goals as goal
use Rattle.std.proofs.lemmas.Grind.{common_steps}

pub returns-in_err-matched-clause-yields : goal.returns-in_err-matched-clause-yields
returns-in_err-matched-clause-yields g c = grind (arith, common_steps, none_waits, eqb-true, Yields-end)

pub returns-clause-yields : goal.returns-clause-yields
returns-clause-yields g c =
    let new : ElementsState = record { table = c.self.inside.table.now; waiting = waiting_of c.elements_of_match-given.result.others.now c.elements_of_match-given.result.second; window = c.next_match.new.window } in
    let waits : waiting_of c.self.inside.waiting.now c.self.inside.second ≡ [] = none_waits c.self.inside.waiting.now c.self.inside.second (eqb-true (length c.self.inside.waiting.now) 0 (sym c.is_empty.ensures ∙ c.if-not-is_empty.false)) c.in_default.not-Some in
    subst (λ v. Yields remaining_elements window_of v (g.S.Source.state c.args.source.now) (Some c.elements_of_match-given.result.first) new (g.S.Source.state c.next_match.new.source)) c.self.view_is
    (Yields-match _ new _ _ c.elements_of_match-given.result.first (points_of c.in_ok-matched.matched) waits refl c.in_ok-matched.ensures.reads c.in_ok-matched.ensures.some c.in_ok-matched.ensures.matched c.in_ok-matched.ensures.rest
    c.elements_of_match-given.ensures)
