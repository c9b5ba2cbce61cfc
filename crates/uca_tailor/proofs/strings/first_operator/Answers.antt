use Rattle.std.proofs.Common.{Some, Ok, flat_map, sym, ap, subst, ◌∙◌}
use Rattle.uca_model.specs.RuleText.{leading_faults}
use Rattle.uca_tailor.specs.Pieces.{first_piece, ReadsNext}
use Rattle.uca_tailor.specs.Strings.{left_of, FindsNext}
use Rattle.uca_tailor.specs.declared.faults.RuleCause.TheVariants as cause
use Rattle.uca_tailor.specs.declared.pieces.Piece.TheVariants as piece
use Rattle.uca_tailor.proofs.StringLemmas.{took, fewer, none_left, refused_first, skips_none, skips_leading, finds_operator, finds_none, refused_leading, refused_some, some_faults, given_leading, same_place}
use Rattle.uca_tailor.proofs.ParsingLemmas.{begins-at}
use Rattle.uca_tailor.proofs.strings.first_operator.Goals as goal

pub pieces-init : goal.pieces-init
pieces-init c = skips_none leading_faults c.args.scanner.now

pub pieces-smaller : goal.pieces-smaller
pieces-smaller c =
    let arm = c.in-Ok-Some-Skipped in
    let reads = subst (ReadsNext (first_piece c.pieces.scanner.left) c.pieces.scanner c.pieces.none.items c.next_piece.new.scanner c.next_piece.new.string.items) (arm.is ∙ ap Ok (arm.field-0-is ∙ ap Some arm.field-0-0-is)) c.next_piece.ensures in
    fewer c.pieces.scanner c.next_piece.new.scanner c.pieces.none.items c.next_piece.new.string.items piece.Skipped (took _ _ _ _ _ reads)

pub pieces-preserved : goal.pieces-preserved
pieces-preserved c =
    let arm = c.in-Ok-Some-Skipped in
    let reads = subst (ReadsNext (first_piece c.pieces.scanner.left) c.pieces.scanner c.pieces.none.items c.next_piece.new.scanner c.next_piece.new.string.items) (arm.is ∙ ap Ok (arm.field-0-is ∙ ap Some arm.field-0-0-is)) c.next_piece.ensures in
    skips_leading c.args.scanner.now c.pieces.scanner c.next_piece.new.scanner c.pieces.none.items c.next_piece.new.string.items c.pieces.invariant (took _ _ _ _ _ reads)

pub returns-in-Ok-Some-Given-clause-next : goal.returns-in-Ok-Some-Given-clause-next
returns-in-Ok-Some-Given-clause-next c =
    let arm = c.in-Ok-Some-Given in
    let reads = subst (ReadsNext (first_piece c.pieces.scanner.left) c.pieces.scanner c.pieces.none.items c.next_piece.new.scanner c.next_piece.new.string.items) (arm.is ∙ ap Ok (arm.field-0-is ∙ ap Some arm.field-0-0-is)) c.next_piece.ensures in
    begins-at c.fault_at.result c.pieces.scanner.at cause.Syntax (flat_map leading_faults (left_of c.args.scanner.now).leading) c.fault_at.ensures.cause (c.fault_at.ensures.at ∙ c.at-at.ensures)
    (given_leading c.args.scanner.now c.pieces.scanner c.next_piece.new.scanner c.pieces.none.items c.next_piece.new.string.items c.pieces.invariant (took _ _ _ _ _ reads))

pub returns-in-Ok-Some-Operator-clause-next : goal.returns-in-Ok-Some-Operator-clause-next
returns-in-Ok-Some-Operator-clause-next c =
    let arm = c.in-Ok-Some-Operator in
    let reads = subst (ReadsNext (first_piece c.pieces.scanner.left) c.pieces.scanner c.pieces.none.items c.next_piece.new.scanner c.next_piece.new.string.items) (arm.is ∙ ap Ok (arm.field-0-is ∙ ap Some arm.field-0-0-is)) c.next_piece.ensures in
    subst (λ n. FindsNext leading_faults c.args.scanner.now (Some (record { operator = arm.operator; at = n })) c.next_piece.new.scanner) (sym c.at-at.ensures)
    (finds_operator leading_faults c.args.scanner.now c.pieces.scanner c.next_piece.new.scanner c.pieces.none.items c.next_piece.new.string.items arm.operator c.pieces.invariant (took _ _ _ _ _ reads))

pub returns-in-Ok-None-clause-next : goal.returns-in-Ok-None-clause-next
returns-in-Ok-None-clause-next c =
    let arm = c.in-Ok-None in
    let reads = subst (ReadsNext (first_piece c.pieces.scanner.left) c.pieces.scanner c.pieces.none.items c.next_piece.new.scanner c.next_piece.new.string.items) (arm.is ∙ ap Ok arm.field-0-is) c.next_piece.ensures in
    finds_none leading_faults c.args.scanner.now c.pieces.scanner c.next_piece.new.scanner c.pieces.invariant (none_left _ _ _ _ reads)

pub returns-in-Err-clause-next : goal.returns-in-Err-clause-next
returns-in-Err-clause-next c =
    let arm = c.in-Err in
    let reads = subst (ReadsNext (first_piece c.pieces.scanner.left) c.pieces.scanner c.pieces.none.items c.next_piece.new.scanner c.next_piece.new.string.items) arm.is c.next_piece.ensures in
    begins-at c.fault_at-in-Err.result c.pieces.scanner.at arm.cause (flat_map leading_faults (left_of c.args.scanner.now).leading) c.fault_at-in-Err.ensures.cause (same_place c.fault_at-in-Err.result.at c.at-at.result c.pieces.scanner.at arm.cause c.at-at.ensures c.fault_at-in-Err.ensures.at)
    (refused_leading c.args.scanner.now c.pieces.scanner arm.cause c.pieces.invariant (refused_first _ _ _ _ _ reads))

pub returns-in-Ok-Some-Given-clause-some : goal.returns-in-Ok-Some-Given-clause-some
returns-in-Ok-Some-Given-clause-some c =
    let arm = c.in-Ok-Some-Given in
    let reads = subst (ReadsNext (first_piece c.pieces.scanner.left) c.pieces.scanner c.pieces.none.items c.next_piece.new.scanner c.next_piece.new.string.items) (arm.is ∙ ap Ok (arm.field-0-is ∙ ap Some arm.field-0-0-is)) c.next_piece.ensures in
    some_faults _ _ (given_leading c.args.scanner.now c.pieces.scanner c.next_piece.new.scanner c.pieces.none.items c.next_piece.new.string.items c.pieces.invariant (took _ _ _ _ _ reads))

pub returns-in-Err-clause-some : goal.returns-in-Err-clause-some
returns-in-Err-clause-some c =
    let arm = c.in-Err in
    let reads = subst (ReadsNext (first_piece c.pieces.scanner.left) c.pieces.scanner c.pieces.none.items c.next_piece.new.scanner c.next_piece.new.string.items) arm.is c.next_piece.ensures in
    refused_some c.args.scanner.now c.pieces.scanner arm.cause c.pieces.invariant (refused_first _ _ _ _ _ reads)
