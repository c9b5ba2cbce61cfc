use Rattle.std.proofs.Common.{◌∙◌, ap, Some}
use Rattle.uca_job.proofs.job.path_of.Goals as goal

pub returns-in_ok-from_str-in-Some : goal.returns-in_ok-from_str-in-Some
returns-in_ok-from_str-in-Some c =
    let was = rw c.in-Some.is at c.value_of.ensures in
    ap (λ t. Some t) c.in_ok-from_str-in-Some.ensures.ok ∙ was

pub returns-in-None : goal.returns-in-None
returns-in-None c = rw c.in-None.is at c.value_of.ensures
