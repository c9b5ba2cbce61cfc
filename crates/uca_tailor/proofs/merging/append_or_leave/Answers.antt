use Rattle.std.proofs.Common.{◌++◌, ◌∷◌, [], sym, ap, subst, ◌∙◌}
use Rattle.uca_table.specs.Ascending.{reported_append_fault}
use Rattle.uca_tailor.specs.Copy.{Holds}
use Rattle.uca_tailor.proofs.CopyLemmas.{Holds-hidden, Holds-last, appended_is_fresh, repeated_is_known}
use Rattle.uca_tailor.proofs.merging.append_or_leave.Goals as goal

pub returns-in-Ok : goal.returns-in-Ok
returns-in-Ok c = λ es holds. Holds-last c.args.merged.now c.push.new.self es c.args.key.now c.args.elements.now holds (appended_is_fresh c.args.merged.now c.args.key.now c.args.elements.now c.in-Ok.ensures.fault) c.in-Ok.ensures.ok

pub returns-in-Err-Repeated : goal.returns-in-Err-Repeated
returns-in-Err-Repeated c = λ es holds.
    subst (λ n. Holds n (es ++ (c.args.key.now, c.args.elements.now) ∷ [])) (sym c.in-Err-Repeated.ensures.err)
    (Holds-hidden c.args.merged.now es c.args.key.now c.args.elements.now holds (repeated_is_known c.args.merged.now c.args.key.now c.args.elements.now (c.in-Err-Repeated.ensures.fault ∙ ap reported_append_fault c.in-Err-Repeated.field-0-is)))
