use Rattle.std.proofs.Common.{◌≡◌, ◌-◌, ◌++◌, true, is_ok, insert, length, take, drop, ap, sym, ◌∙◌}
use Rattle.std.proofs.lemmas.Bool.{cond-true}
use Rattle.std.proofs.lemmas.List.{take_rest}
use Rattle.uca_tailor.specs.Shifts.{bounds_with}
use Rattle.uca_tailor.proofs.BlockLemmas.{insert-past}
use Rattle.uca_tailor.proofs.shifts.insert_bound.Goals as goal

pub returns : goal.returns
returns c =
    let w = c.args.w in let at = c.place_of-at.result in let from = c.args.from in
    let old = c.args.bounds.now.items in
    let fits : is_ok c.insert-fits.result ≡ true = c.insert-fits.ensures.succeeds c.requires.capacity in
    let same : take (length c.deref.result.now - from) (drop from c.deref.result.now) ≡ drop from old = take_rest c.deref.result.now from ∙ ap (drop from) c.deref.ensures.value in
    let placed : insert (drop from old) at (w - at) ≡ bounds_with w (drop from old) = ap (λ xs. insert xs at (w - at)) (sym same) ∙ c.place_of-at.ensures.bounds ∙ ap (bounds_with w) same in
    c.insert-fits.ensures.items ∙ cond-true _ _ _ fits ∙ insert-past from at (w - at) old c.requires.from ∙ ap (λ xs. take from old ++ xs) placed
