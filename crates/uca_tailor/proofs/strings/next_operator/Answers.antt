use Rattle.std.proofs.Common.{Some, Ok, flat_map, refl, sym, ap, subst, ◌∙◌}
use Rattle.uca_model.specs.RuleText.{part_faults}
use Rattle.uca_tailor.specs.Pieces.{first_piece, ReadsNext}
use Rattle.uca_tailor.specs.Strings.{left_of, FindsNext}
use Rattle.uca_tailor.specs.declared.pieces.Piece.TheVariants as piece
use Rattle.uca_tailor.proofs.StringLemmas.{took, fewer, none_left, same_at_end, refused_first, skips_none, skips_skipped, skips_given, string-skipped, string-given, string-found, string-ended, same-string, finds_operator, finds_none, refused_part, same_place}
use Rattle.uca_tailor.proofs.ParsingLemmas.{begins-at}
use Rattle.uca_tailor.proofs.strings.next_operator.Goals as goal

pub pieces-init : goal.pieces-init
pieces-init c = record { skips = skips_none part_faults c.args.scanner.now; string = refl }

pub pieces-smaller-in-Ok-Some-Skipped : goal.pieces-smaller-in-Ok-Some-Skipped
pieces-smaller-in-Ok-Some-Skipped c =
    let arm = c.in-Ok-Some-Skipped in
    let reads = subst (ReadsNext (first_piece c.pieces.scanner.left) c.pieces.scanner c.pieces.string.items c.next_piece.new.scanner c.next_piece.new.string.items) (arm.is ∙ ap Ok (arm.field-0-is ∙ ap Some arm.field-0-0-is)) c.next_piece.ensures in
    fewer c.pieces.scanner c.next_piece.new.scanner c.pieces.string.items c.next_piece.new.string.items piece.Skipped (took _ _ _ _ _ reads)

pub pieces-preserved-in-Ok-Some-Skipped : goal.pieces-preserved-in-Ok-Some-Skipped
pieces-preserved-in-Ok-Some-Skipped c =
    let arm = c.in-Ok-Some-Skipped in
    let reads = subst (ReadsNext (first_piece c.pieces.scanner.left) c.pieces.scanner c.pieces.string.items c.next_piece.new.scanner c.next_piece.new.string.items) (arm.is ∙ ap Ok (arm.field-0-is ∙ ap Some arm.field-0-0-is)) c.next_piece.ensures in
    record {
      skips = skips_skipped c.args.scanner.now c.pieces.scanner c.next_piece.new.scanner c.pieces.string.items c.next_piece.new.string.items c.pieces.invariant.skips (took _ _ _ _ _ reads);
      string = string-skipped c.pieces.scanner c.next_piece.new.scanner c.pieces.string.items c.next_piece.new.string.items (took _ _ _ _ _ reads) ∙ c.pieces.invariant.string;
    }

pub pieces-smaller : goal.pieces-smaller
pieces-smaller c =
    let arm = c.in-Ok-Some-Given in
    let reads = subst (ReadsNext (first_piece c.pieces.scanner.left) c.pieces.scanner c.pieces.string.items c.next_piece.new.scanner c.next_piece.new.string.items) (arm.is ∙ ap Ok (arm.field-0-is ∙ ap Some arm.field-0-0-is)) c.next_piece.ensures in
    fewer c.pieces.scanner c.next_piece.new.scanner c.pieces.string.items c.next_piece.new.string.items piece.Given (took _ _ _ _ _ reads)

pub pieces-preserved : goal.pieces-preserved
pieces-preserved c =
    let arm = c.in-Ok-Some-Given in
    let reads = subst (ReadsNext (first_piece c.pieces.scanner.left) c.pieces.scanner c.pieces.string.items c.next_piece.new.scanner c.next_piece.new.string.items) (arm.is ∙ ap Ok (arm.field-0-is ∙ ap Some arm.field-0-0-is)) c.next_piece.ensures in
    record {
      skips = skips_given c.args.scanner.now c.pieces.scanner c.next_piece.new.scanner c.pieces.string.items c.next_piece.new.string.items c.pieces.invariant.skips (took _ _ _ _ _ reads);
      string = string-given c.pieces.scanner c.next_piece.new.scanner c.pieces.string.items c.next_piece.new.string.items (took _ _ _ _ _ reads) ∙ c.pieces.invariant.string;
    }

pub returns-in-Ok-Some-Operator-clause-next : goal.returns-in-Ok-Some-Operator-clause-next
returns-in-Ok-Some-Operator-clause-next c =
    let arm = c.in-Ok-Some-Operator in
    let reads = subst (ReadsNext (first_piece c.pieces.scanner.left) c.pieces.scanner c.pieces.string.items c.next_piece.new.scanner c.next_piece.new.string.items) (arm.is ∙ ap Ok (arm.field-0-is ∙ ap Some arm.field-0-0-is)) c.next_piece.ensures in
    subst (λ n. FindsNext part_faults c.args.scanner.now (Some (record { operator = arm.operator; at = n })) c.next_piece.new.scanner) (sym c.at-at.ensures)
    (finds_operator part_faults c.args.scanner.now c.pieces.scanner c.next_piece.new.scanner c.pieces.string.items c.next_piece.new.string.items arm.operator c.pieces.invariant.skips (took _ _ _ _ _ reads))

pub returns-in-Ok-Some-Operator-clause-string : goal.returns-in-Ok-Some-Operator-clause-string
returns-in-Ok-Some-Operator-clause-string c =
    let arm = c.in-Ok-Some-Operator in
    let reads = subst (ReadsNext (first_piece c.pieces.scanner.left) c.pieces.scanner c.pieces.string.items c.next_piece.new.scanner c.next_piece.new.string.items) (arm.is ∙ ap Ok (arm.field-0-is ∙ ap Some arm.field-0-0-is)) c.next_piece.ensures in
    let is = took _ _ _ _ _ reads in
    sym (string-found c.pieces.scanner c.next_piece.new.scanner c.pieces.string.items c.next_piece.new.string.items arm.operator is (same-string c.pieces.scanner c.next_piece.new.scanner c.pieces.string.items c.next_piece.new.string.items arm.operator is)) ∙ c.pieces.invariant.string

pub returns-in-Ok-None-clause-next : goal.returns-in-Ok-None-clause-next
returns-in-Ok-None-clause-next c =
    let arm = c.in-Ok-None in
    let reads = subst (ReadsNext (first_piece c.pieces.scanner.left) c.pieces.scanner c.pieces.string.items c.next_piece.new.scanner c.next_piece.new.string.items) (arm.is ∙ ap Ok arm.field-0-is) c.next_piece.ensures in
    finds_none part_faults c.args.scanner.now c.pieces.scanner c.next_piece.new.scanner c.pieces.invariant.skips (none_left _ _ _ _ reads)

pub returns-in-Ok-None-clause-string : goal.returns-in-Ok-None-clause-string
returns-in-Ok-None-clause-string c =
    let arm = c.in-Ok-None in
    let reads = subst (ReadsNext (first_piece c.pieces.scanner.left) c.pieces.scanner c.pieces.string.items c.next_piece.new.scanner c.next_piece.new.string.items) (arm.is ∙ ap Ok arm.field-0-is) c.next_piece.ensures in
    same_at_end _ _ _ _ reads ∙ sym (string-ended c.pieces.scanner c.pieces.string.items (none_left _ _ _ _ reads)) ∙ c.pieces.invariant.string

pub returns-in-Err-clause-next : goal.returns-in-Err-clause-next
returns-in-Err-clause-next c =
    let arm = c.in-Err in
    let reads = subst (ReadsNext (first_piece c.pieces.scanner.left) c.pieces.scanner c.pieces.string.items c.next_piece.new.scanner c.next_piece.new.string.items) arm.is c.next_piece.ensures in
    begins-at c.fault_at.result c.pieces.scanner.at arm.cause (flat_map part_faults (left_of c.args.scanner.now).leading) c.fault_at.ensures.cause (same_place c.fault_at.result.at c.at-at.result c.pieces.scanner.at arm.cause c.at-at.ensures c.fault_at.ensures.at)
    (refused_part c.args.scanner.now c.pieces.scanner arm.cause c.pieces.invariant.skips (refused_first _ _ _ _ _ reads))
