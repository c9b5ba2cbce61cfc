use Rattle.std.proofs.Common.{◌≡◌, true, false, ◌+◌, ◌≤◌, subst, arith}
use Rattle.std.specs.List.{count_by}
use Rattle.uca_weights.specs.declared.limits.TheConstants.{MAX_RUN}
use Rattle.uca_window.specs.Passing.{added_by, is_dense}
use Rattle.uca_window.proofs.RunScan.{short_safe, medium_safe, light_safe}
use Rattle.uca_window.proofs.passage.Passage.check.Goals as goal

pub of_safe-requires : goal.of_safe-requires
of_safe-requires c =
    short_safe c.args.text.now c.utf8.text (omega (arith, c.if-bytes-le-SHORT.true))

pub of_safe-requires-then-none_dense : goal.of_safe-requires-then-none_dense
of_safe-requires-then-none_dense c =
    let none = c.none_dense.ensures c.if-none_dense.true in
    medium_safe c.args.text.now c.utf8.text (subst (λ bs. count_by is_dense bs ≡ 0) c.as_bytes-bytes.ensures.value none) (omega (arith, c.if-bytes-le-MEDIUM.true))

pub of_safe-requires-then-adds_few_coarsely : goal.of_safe-requires-then-adds_few_coarsely
of_safe-requires-then-adds_few_coarsely c =
    let few = c.adds_few_coarsely.ensures c.if-adds_few_coarsely.true in
    light_safe true c.args.text.now c.utf8.text (subst (λ bs. 3 + added_by true bs ≤ MAX_RUN) c.as_bytes-bytes.ensures.value (omega (arith, few)))

pub of_safe-requires-then-adds_few : goal.of_safe-requires-then-adds_few
of_safe-requires-then-adds_few c =
    let few = c.adds_few.ensures c.if-adds_few.true in
    light_safe false c.args.text.now c.utf8.text (subst (λ bs. 3 + added_by false bs ≤ MAX_RUN) c.as_bytes-bytes.ensures.value (omega (arith, few)))
