use Rattle.uca_key.proofs.Common.{◌≡◌, length, flat_map, level_list, bytes_at, code_point_bytes}
use Rattle.uca_model.specs.Source.{unread}
use Rattle.uca_model.specs.Window.{Fits, rest_of}
use Rattle.uca_key.proofs.KeyPieces.{IsSending}
use Rattle.uca_key.proofs.streaming.send_points.Given as goal

abbrev pub invariant-each : goal.invariant-each
invariant-each g l = record {
  text : (g.S.Source.state l.source).text ≡ (g.S.Source.state l.fn.source).text;
  fits : Fits l.points (unread (g.S.Source.state l.source));
  sending : IsSending (g.W.Writer.state l.fn.w) l.fn.out (g.W.Writer.state l.w) l.out (bytes_at 5 (level_list l.fn.t l.fn.v (unread (g.S.Source.state l.fn.source)) 5))
      (flat_map code_point_bytes (rest_of l.points (unread (g.S.Source.state l.source))));
}

abbrev pub decreases-each : goal.decreases-each
decreases-each g l = length (rest_of l.points (unread (g.S.Source.state l.source)))
