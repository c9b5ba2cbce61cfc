use Rattle.std.proofs.Common.{◌≡◌, ℕ, ◌+◌, List, ◌++◌, length, refl, sym, subst, eqb-true, arith}
use Rattle.std.proofs.lemmas.Result.{err_from_is_err_and}
use Rattle.uca_io.specs.OutputBuffer.{accepted, Accepts}
use Rattle.uca_io.proofs.BufferLemmas.{accepted-Accepts}
use Rattle.uca_io.proofs.SendLemmas.{sent_more, stopped_there}
use Rattle.uca_io.specs.Hex.{spaced_pairs}
use Rattle.uca_io.proofs.HexLemmas.{length-spaced_pairs, spaced_pairs-parts, all_sent}
use Rattle.uca_io.proofs.hex.send_spaced.Goals as goal

pub returns-in_err-send_pairs : goal.returns-in_err-send_pairs
returns-in_err-send_pairs g c =
    let p = err_from_is_err_and c.from_residual.result c.from_residual.ensures.1 in
    let front : List ℕ = c.split_at.result.0.now in let rest : List ℕ = c.split_at.result.1.now in
    let parts = spaced_pairs-parts c.loop-left.invariant.sent c.args.bytes.now c.loop-left.left.now front rest c.split_at.ensures.by_index.0 c.loop-left.invariant.complete in
    rw (p.1, p.2) (stopped_there _ _ _ c.args.out.now c.loop-left.out c.loop-left.invariant.sent (spaced_pairs front) (spaced_pairs rest) _ (spaced_pairs front) _ c.loop-left.invariant.sends parts refl c.in_err-send_pairs.ensures)

pub loop-left-preserved : goal.loop-left-preserved
loop-left-preserved g c =
    let front : List ℕ = c.split_at.result.0.now in let rest : List ℕ = c.split_at.result.1.now in
    let parts = spaced_pairs-parts c.loop-left.invariant.sent c.args.bytes.now c.loop-left.left.now front rest c.split_at.ensures.by_index.0 c.loop-left.invariant.complete in
    let more = sent_more _ _ _ c.args.out.now c.loop-left.out c.send_pairs.new.out c.loop-left.invariant.sent (spaced_pairs front) (spaced_pairs rest) _ (spaced_pairs front) c.loop-left.invariant.sends parts refl c.in_ok-send_pairs.ensures in
    let size : accepted c.send_pairs.new.out ≡ accepted c.loop-left.out + length (spaced_pairs front) = accepted-Accepts _ _ _ _ (spaced_pairs front) c.in_ok-send_pairs.ensures in
    record {
      sent = c.loop-left.invariant.sent ++ spaced_pairs front;
      sends = more.0;
      complete = more.1;
      room = omega (arith, size, length-spaced_pairs front, c.split_at.ensures.front_len, c.split_at.ensures.back_len, c.loop-left.invariant.room);
    }

pub returns : goal.returns
returns g c =
    let none : length c.loop-left.left.now ≡ 0 = eqb-true _ _ (sym c.loop-left-test.ensures) in
    subst (λ (l : List ℕ). Accepts (g.W.Writer.state c.args.w.now) c.args.out.now (g.W.Writer.state c.loop-left.w) c.loop-left.out l) (all_sent c.loop-left.invariant.sent c.loop-left.left.now c.args.bytes.now none c.loop-left.invariant.complete) c.loop-left.invariant.sends
