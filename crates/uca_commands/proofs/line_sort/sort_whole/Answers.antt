use Rattle.std.proofs.Common.{Bool, is_lt, refl, rules}
use Rattle.uca_model.specs.SortKey.{key_order}
use Rattle.uca_commands.specs.declared.keyed_line.KeyedLine.{KeyedLine}
use Rattle.std.specs.Cmp.{IsStrictWeakOrder}
use Rattle.std.proofs.lemmas.Cmp.{nat_list_cmp_total}
use Rattle.std.proofs.lemmas.List.MinMax.{ranks_by}
use Rattle.std.proofs.lemmas.Fn.{always_returns_same}
use Rattle.std.proofs.lemmas.Result.{on_ok_weaker}
use Rattle.uca_commands.specs.KeyedLines.{key_of, number_key, number_of}
use Rattle.uca_commands.specs.declared.keyed_line.KeyedLines.{KeyedLines}
use Rattle.uca_commands.proofs.SortLemmas.{SortsByKey-map}
use Rattle.uca_commands.proofs.line_sort.sort_whole.Goals as goal

abbrev before : KeyedLines → KeyedLine → KeyedLine → Bool
before of a b = is_lt (key_order (key_of of a) (key_of of b))

pub returns-clause-sorts : goal.returns-clause-sorts
returns-clause-sorts c =
    let answers = always_returns_same _ _ _ (λ a r next called. search rules) in
    let ranks : IsStrictWeakOrder (before c.args.of.now) = ranks_by nat_list_cmp_total (key_of c.args.of.now) in
    on_ok_weaker c.sort_by.result
    (λ sorted. SortsByKey-map (key_of c.args.of.now) (number_key c.args.of.now) number_of _ _ (λ k d low. refl)
    (record { same = c.sort_by.ensures.permutation; sorted = sorted (before c.args.of.now) ranks answers; stable = c.sort_by.ensures.stable (before c.args.of.now) ranks answers }))
    c.sort_by.ensures.sorted
