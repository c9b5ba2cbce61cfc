use Rattle.uca_key.proofs.Common.{◌≡◌, length, level_bytes, weights_left, weights_of}
use Rattle.uca_key.proofs.KeyPieces.{IsSending}
use Rattle.uca_key.proofs.streaming.send_weights_again.Given as goal

abbrev pub invariant-each : goal.invariant-each
invariant-each g l = record {
  weighting : l.left.weighting ≡ l.reading.settings.weighting;
  sending : IsSending (g.W.Writer.state l.fn.w) l.fn.out (g.W.Writer.state l.w) l.out (level_bytes (weights_of l.reading) l.level) (level_bytes (weights_left l.left) l.level);
}

abbrev pub decreases-each : goal.decreases-each
decreases-each g l = length (weights_left l.left)
