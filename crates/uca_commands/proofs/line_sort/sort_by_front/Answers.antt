use Rattle.std.proofs.Common.{rules}
use Rattle.std.proofs.lemmas.List.Sorted.{answers_always}
use Rattle.std.proofs.lemmas.Result.{on_ok_weaker}
use Rattle.uca_commands.proofs.line_sort.sort_by_front.Goals as goal

pub returns-clause-sorts : goal.returns-clause-sorts
returns-clause-sorts c =
    let keys = answers_always _ _ _ (λ f a r next called. search rules) in
    on_ok_weaker c.sort_by_key.result
    (λ sorted. record { same = c.sort_by_key.ensures.permutation; sorted = sorted (λ l. l.front) keys; stable = c.sort_by_key.ensures.stable (λ l. l.front) keys })
    c.sort_by_key.ensures.sorted
