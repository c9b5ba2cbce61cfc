use Rattle.uca_key.proofs.Common.{flat_map, ap, ◌∙◌, err_from_is_err_and, code_point_bytes, given_some}
use Rattle.uca_key.proofs.KeyPieces.{IsSending-room, IsSending-more, IsSending-stops}
use Rattle.uca_key.proofs.streaming.send_points.Goals as goal

pub send_point-requires : goal.send_point-requires
send_point-requires g c =
    let first = given_some _ _ c.next.result c.in-Some.point c.next.ensures.yields.first c.in-Some.is in
    IsSending-room _ _ _ _ _ _ c.each.invariant.sending (code_point_bytes c.in-Some.point) _ _ (ap (flat_map code_point_bytes) first) c.requires.room

pub each-preserved : goal.each-preserved
each-preserved g c =
    let first = given_some _ _ c.next.result c.in-Some.point c.next.ensures.yields.first c.in-Some.is in
    record {
      text = c.next.ensures.yields.reads.text ∙ c.each.invariant.text;
      fits = c.next.ensures.yields.reads.fits;
      sending = IsSending-more _ _ _ _ _ _ c.each.invariant.sending _ _ (code_point_bytes c.in-Some.point) _ (ap (flat_map code_point_bytes) first) c.in_ok-send_point.ensures;
    }

pub returns-in_err-send_point-clause-bytes : goal.returns-in_err-send_point-clause-bytes
returns-in_err-send_point-clause-bytes g c =
    let p = err_from_is_err_and c.from_residual.result c.from_residual.ensures.1 in
    let first = given_some _ _ c.next.result c.in-Some.point c.next.ensures.yields.first c.in-Some.is in
    rw (p.1, p.2) (IsSending-stops _ _ _ _ _ _ c.each.invariant.sending _ (code_point_bytes c.in-Some.point) _ _ (ap (flat_map code_point_bytes) first) c.in_err-send_point.ensures)
