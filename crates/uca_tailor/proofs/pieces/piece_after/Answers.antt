use Rattle.std.proofs.Common.{sym, subst}
use Rattle.uca_tailor.specs.Pieces.{ReadsPiece}
use Rattle.uca_tailor.proofs.PieceLemmas.{less_taken, equals_taken, other_piece}
use Rattle.std.proofs.Common.{◌∙◌}
use Rattle.uca_tailor.proofs.pieces.piece_after.Goals as goal

pub returns-then-c-eq60 : goal.returns-then-c-eq60
returns-then-c-eq60 c = less_taken c.args.c c.less_operator.result c.args.scanner.now c.less_operator.new.scanner c.args.string.now.items c.if-c-eq60.true c.less_operator.ensures.value c.less_operator.ensures.scan

pub returns-then-c-eq61 : goal.returns-then-c-eq61
returns-then-c-eq61 c = equals_taken c.args.c c.relation.result c.args.scanner.now c.args.string.now.items c.if-c-eq61.true (c.relation.ensures 1)

pub returns-else-c-eq92 : goal.returns-else-c-eq92
returns-else-c-eq92 c =
    let same = other_piece c.args.c c.args.scanner.now.left (sym c.is_white_space.ensures ∙ c.if-is_white_space.false) c.if-c-eq35.false c.if-c-eq38.false c.if-c-eq60.false c.if-c-eq61.false c.if-c-eq47.false c.if-c-eq39.false c.if-c-eq92.false in
    subst (λ p. ReadsPiece p c.args.scanner.now c.args.string.now.items c.args.scanner.now c.plain.new.string.items c.plain.result) (sym same) (c.plain.ensures c.args.scanner.now)
