use Rattle.std.proofs.Common.{false, sym, subst}
use Rattle.uca_model.specs.Window.{IsWindow}
use Rattle.uca_window.proofs.WindowCalls.{window_of, IsWindow-new}
use Rattle.uca_window.proofs.window.Window.new.Goals as goal

pub invariant_of-result : goal.invariant_of-result
invariant_of-result c =
    subst (λ l. IsWindow (window_of l 0 c.args.longest false)) (sym c.new.ensures) (IsWindow-new c.args.longest c.requires.first c.requires.last)
