use Rattle.uca_key.proofs.Common.{◌≡◌, length, level_bytes, all_own}
use Rattle.uca_key.proofs.KeyPieces.{IsSending}
use Rattle.uca_key.proofs.streaming.send_elements.Given as goal

abbrev pub invariant-pieces : goal.invariant-pieces
invariant-pieces g l = record {
  bytes : length l.bytes ≡ 128;
  sending : IsSending (g.W.Writer.state l.fn.w) l.fn.out (g.W.Writer.state l.w) l.out (level_bytes (all_own l.v l.elements) l.level) (level_bytes (all_own l.v l.left) l.level);
}

abbrev pub decreases-pieces : goal.decreases-pieces
decreases-pieces g l = length l.left
