use Rattle.std.proofs.Common.{arith, rules}
use Rattle.uca_commands.proofs.SendingLemmas.{accepted-after}
use Rattle.uca_commands.proofs.commands.compare.send_order.Goals as goal

pub returns-clause-small : goal.returns-clause-small
returns-clause-small g c = accepted-after _ _ _ _ c.order_line.result.now _ c.write.result c.write.ensures.all (omega (arith, c.order_line.ensures.short))

pub returns-clause-sends : goal.returns-clause-sends
returns-clause-sends g c = search rules
