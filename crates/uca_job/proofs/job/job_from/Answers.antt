use Rattle.std.proofs.Common.{inl, rules}
use Rattle.std.proofs.lemmas.Result.{err_from_is_err_and}
use Rattle.uca_job.proofs.job.job_from.Goals as goal

pub returns-in_err-path_of-clause-fault : goal.returns-in_err-path_of-clause-fault
returns-in_err-path_of-clause-fault c =
    let p = err_from_is_err_and c.from_residual.result c.from_residual.ensures.1 in
    rw p.1 (inl p.2)

pub returns-in_err-path_of-2-clause-fault : goal.returns-in_err-path_of-2-clause-fault
returns-in_err-path_of-2-clause-fault c =
    let p = err_from_is_err_and c.from_residual-in_err-path_of-2.result c.from_residual-in_err-path_of-2.ensures.1 in
    rw p.1 (inl p.2)

pub returns-clause-job : goal.returns-clause-job
returns-clause-job c = search rules
