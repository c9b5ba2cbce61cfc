use Rattle.uca_key.proofs.Common.{arith, take, ◌^◌, err_from_is_err_and, weights_left, common_steps}
use Rattle.uca_key.proofs.KeyPieces.{IsSending-room, IsSending-more, IsSending-stops}
use Rattle.uca_key.proofs.WeighingLemmas.{bytes-read}
use Rattle.uca_key.proofs.streaming.send_weights_again.Goals as goal

pub send_elements-requires-clause-count : goal.send_elements-requires-clause-count
send_elements-requires-clause-count g c =
    IsSending-room _ _ _ _ _ _ c.each.invariant.sending _ _ (2 ^ 128) (bytes-read _ _ c.args.level (weights_left c.each.left) (weights_left c.read-n.new.self) (take c.read-n.result c.read-n.new.room) c.read-n.ensures.left c.each.invariant.weighting) c.requires.count

pub each-preserved : goal.each-preserved
each-preserved g c = grind (arith, common_steps, IsSending-more, bytes-read)

pub returns-in_err-send_elements : goal.returns-in_err-send_elements
returns-in_err-send_elements g c =
    let p = err_from_is_err_and c.from_residual.result c.from_residual.ensures.1 in
    rw (p.1, p.2) (IsSending-stops _ _ _ _ _ _ c.each.invariant.sending _ _ _ _ (bytes-read _ _ c.args.level (weights_left c.each.left) (weights_left c.read-n.new.self) (take c.read-n.result c.read-n.new.room) c.read-n.ensures.left c.each.invariant.weighting) c.in_err-send_elements.ensures)
