use Rattle.std.proofs.Common.{not, sym, ap, ◌∙◌}
use Rattle.uca_model.specs.RuleText.{is_line_end}
use Rattle.uca_tailor.proofs.PieceLemmas.{take_peeked, run_goes_on}
use Rattle.uca_tailor.proofs.pieces.skip_comment.Goals as goal

pub loop-c-preserved : goal.loop-c-preserved
loop-c-preserved c =
    let taken = take_peeked c.loop-c.scanner c.next.new.self c.next.result c.in-Some.c c.in-Some.ensures c.next.ensures in
    run_goes_on (λ x. not (is_line_end x)) c.loop-c.scanner c.next.new.self c.in-Some.c taken.0 taken.1 (ap not (sym c.is_line_end.ensures ∙ c.if-is_line_end.false)) ∙ c.loop-c.invariant
