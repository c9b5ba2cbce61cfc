use Rattle.uca_tailor.proofs.PieceLemmas.{next_taken}
use Rattle.uca_tailor.proofs.pieces.next_piece.Goals as goal

pub returns : goal.returns
returns c = next_taken c.args.scanner.now c.next.new.self c.piece_after.new.scanner c.in-Some.c c.args.string.now.items c.piece_after.new.string.items c.in_ok-piece.piece c.in-Some.ensures.0 c.in-Some.ensures.1 c.in_ok-piece.ensures
