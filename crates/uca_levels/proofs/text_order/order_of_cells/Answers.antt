use Rattle.std.proofs.Common.{subst, ◌∙◌}
use Rattle.uca_model.specs.DecidingLevel.{OrdersLevel}
use Rattle.uca_levels.specs.Streams.{cell_weights_left, given_before}
use Rattle.uca_levels.proofs.ReadsLemmas.{InStep-orders}
use Rattle.uca_levels.proofs.StreamLemmas.{if_some}
use Rattle.uca_levels.proofs.text_order.order_of_cells.Goals as goal

pub returns-in-Err : goal.returns-in-Err
returns-in-Err c =
    let left = given_before c.in-Err.undecided.given (cell_weights_left c.order_of.new.left) in
    let right = cell_weights_left c.order_of.new.right in
    if_some c.order_of_joined.result _ _ (λ o orders. rw (← c.new-left.ensures.left) (rw (← c.new-right.ensures.left)
    (InStep-orders c.args.level _ _ left right o c.in-Err.ensures.order (subst (λ l. OrdersLevel l left right o) (c.in-Err.ensures.levels.0 ∙ c.new-left.ensures.level) orders)))) c.order_of_joined.ensures
