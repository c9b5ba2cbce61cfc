use Rattle.std.proofs.Common.{arith, sym, subst, ◌∙◌, rules}
use Rattle.uca_window.proofs.WindowCalls.{closed-end, IsFilling, IsFilling-read, IsFilling-holds, IsFilling-asked}
use Rattle.uca_window.proofs.window.Window.fill.Goals as goal
use Rattle.std.proofs.lemmas.Grind.{common_steps}

pub loop-self-preserved : goal.loop-self-preserved
loop-self-preserved g c =
    let filling : IsFilling c.args.self.now (g.S.Source.state c.args.source.now) c.read-given.new.self (g.S.Source.state c.read-given.new.source) =
    subst (λ w. IsFilling c.args.self.now (g.S.Source.state c.args.source.now) w (g.S.Source.state c.read-given.new.source)) (sym c.read-given.ensures.next)
    (IsFilling-read _ _ c.loop-self.self _ c.read-given.result _ c.loop-self.invariant.filling (sym c.wants.ensures.value ∙ c.loop-self-test.true) c.read-given.ensures.given) in
    search rules

pub returns-clause-enough : goal.returns-clause-enough
returns-clause-enough g c = grind (arith, common_steps, closed-end)

pub returns-clause-holds : goal.returns-clause-holds
returns-clause-holds g c = IsFilling-holds _ _ c.loop-self.self _ c.loop-self.invariant.filling (sym c.wants.ensures.value ∙ c.loop-self-test.false)

pub returns-clause-asks : goal.returns-clause-asks
returns-clause-asks g c = IsFilling-asked _ _ c.loop-self.self _ c.loop-self.invariant.filling (sym c.wants.ensures.value ∙ c.loop-self-test.false)
