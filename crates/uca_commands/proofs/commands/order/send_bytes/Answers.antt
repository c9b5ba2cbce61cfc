use Rattle.std.proofs.Common.{arith}
use Rattle.std.proofs.lemmas.Result.{err_from_is_err_and}
use Rattle.uca_io.proofs.BufferLemmas.{accepted-Accepts}
use Rattle.uca_commands.proofs.SendingLemmas.{Sends-last, Sends-more, Sends-stops}
use Rattle.uca_commands.proofs.commands.order.send_bytes.Goals as goal

pub returns-in_err-write : goal.returns-in_err-write
returns-in_err-write g c =
    let p = err_from_is_err_and c.from_residual.result c.from_residual.ensures.1 in
    rw (p.1, p.2) (Sends-stops c.loop-left.invariant.sends c.split_at.result.0.now c.split_at.result.1.now _ c.split_at.ensures.by_index.0 c.in_err-write.ensures.all)

pub loop-left-preserved : goal.loop-left-preserved
loop-left-preserved g c = record {
  sends = Sends-more c.loop-left.invariant.sends c.split_at.result.0.now c.split_at.result.1.now c.split_at.ensures.by_index.0 c.in_ok-write.ensures.all;
  room = omega (arith, accepted-Accepts _ _ _ _ _ c.in_ok-write.ensures.all, c.split_at.ensures.front_len, c.split_at.ensures.back_len, c.loop-left.invariant.room);
}

pub returns : goal.returns
returns g c = Sends-last c.loop-left.invariant.sends _ _ c.write-2.result c.write-2.ensures.all
