use Rattle.std.proofs.Common.{ℕ, ◌++◌, take, arith}
use Rattle.std.proofs.lemmas.List.{length-take}
use Rattle.uca_io.proofs.ReaderLemmas.{Gives-more}
use Rattle.uca_io.proofs.WholeLemmas.{some_within, too_many}
use Rattle.uca_io.proofs.reading.read_whole.Goals as goal

pub returns-then-n-room-clause-reads : goal.returns-then-n-room-clause-reads
returns-then-n-room-clause-reads g c =
    let piece = take c.in-Ok.n c.pull.new.buf in (
      c.loop-bytes.bytes.items ++ piece,
      (Gives-more _ (g.R.Reader.state c.loop-bytes.reader) _ _ _ c.loop-bytes.invariant.gives c.in-Ok.ensures.bytes.0 c.in-Ok.ensures.failures, too_many c.args.limit c.loop-bytes.bytes.items c.pull.new.buf c.in-Ok.n c.loop-bytes.invariant.within c.in-Ok.ensures.bound.0 (omega (arith, c.pull.auto.buf, length-take {A = ℕ}, c.asked_for.ensures.few, c.len.ensures, c.loop-bytes.bytes.ok.0)) (omega (arith, c.loop-bytes.bytes.ok.0))),
    )

pub returns-then-is_err-clause-reads : goal.returns-then-is_err-clause-reads
returns-then-is_err-clause-reads g c =
    let piece = take c.in-Ok.n c.pull.new.buf in (
      c.loop-bytes.bytes.items ++ piece,
      (Gives-more _ (g.R.Reader.state c.loop-bytes.reader) _ _ _ c.loop-bytes.invariant.gives c.in-Ok.ensures.bytes.0 c.in-Ok.ensures.failures, some_within c.args.limit c.loop-bytes.bytes.items c.pull.new.buf c.in-Ok.n c.in-Ok.ensures.bound.0 (omega arith) (omega (arith, c.loop-bytes.bytes.ok.0))),
    )
