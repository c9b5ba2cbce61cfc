use Rattle.std.proofs.lemmas.Result.{err_from_is_err_and}
use Rattle.uca_io.proofs.SendLemmas.{stopped_last}
use Rattle.uca_allkeys.proofs.canonical.write_table.Goals as goal

pub returns-in_err-flush : goal.returns-in_err-flush
returns-in_err-flush g c =
    let p = err_from_is_err_and c.from_residual-in_err-flush.result c.from_residual-in_err-flush.ensures.1 in
    rw (p.1, p.2) (stopped_last _ _ _ c.new-out.result c.send_table.new.out _ _ c.new-out.ensures.waiting c.new-out.ensures.written c.in_ok-send_table.ensures.lines c.in_err-flush.ensures.all)
