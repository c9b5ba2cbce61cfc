use Rattle.std.proofs.Common.{◌≡◌, ◌+◌, ◌-◌, ◌≤◌, ◌<◌, get_or, sym, ap, ◌∙◌, arith}
use Rattle.std.proofs.lemmas.Simd.{get_or-chunk}
use Rattle.uca_window.specs.Utf8.{is_unpaired}
use Rattle.uca_window.proofs.utf8.are_paired_at.Goals as goal

pub returns : goal.returns
returns g c = λ none k from to.
    let bytes = c.args.bytes.now in
    let at = c.args.at in
    let i = k - at in
    let within : i < _ = omega (arith, from, to) in
    let begun : 1 ≤ at = c.requires.begun in
    let here : at + i ≡ k = omega (arith, from) in
    let back : at - 1 + i ≡ k - 1 = omega (arith, from, begun) in
    let b = get_or-chunk at _ bytes i 0 within ∙ ap (λ j. get_or bytes j 0) here in
    let z = get_or-chunk (at - 1) _ bytes i 0 within ∙ ap (λ j. get_or bytes j 0) back in
    sym (λ j. is_unpaired (z j) (b j)) ∙ c.are_paired_after.ensures none i within
