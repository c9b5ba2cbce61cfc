use Rattle.std.proofs.Common.{[], ◌∷◌, ◌++◌, sym, ap, ◌∙◌, arith}
use Rattle.std.proofs.lemmas.List.FromFn.{map-range_with_len_more}
use Rattle.uca_commands.specs.KeyedLines.{numbered}
use Rattle.uca_commands.proofs.commands.order.numbered_lines.Goals as goal

pub loop-number-preserved : goal.loop-number-preserved
loop-number-preserved c = c.in_ok-push.ensures.items ∙ ap (λ ls. ls ++ numbered c.loop-number.number ∷ []) c.loop-number.invariant ∙ sym (map-range_with_len_more numbered 0 c.loop-number.number c.loop-number.number (omega arith))
