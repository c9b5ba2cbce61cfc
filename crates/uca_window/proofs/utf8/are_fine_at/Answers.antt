use Rattle.std.proofs.Common.{◌≡◌, ◌+◌, ◌-◌, ◌≤◌, ◌<◌, get_or, sym, ap, ◌∙◌, arith}
use Rattle.std.proofs.lemmas.Simd.{get_or-chunk}
use Rattle.uca_window.specs.Utf8.{is_fault}
use Rattle.uca_window.proofs.Utf8Lanes.{behind, behind_two}
use Rattle.uca_window.proofs.utf8.are_fine_at.Goals as goal

pub returns : goal.returns
returns g c = λ none k from to.
    let bytes = c.args.bytes.now in
    let at = c.args.at in
    let i = k - at in
    let within : i < _ = omega (arith, from, to) in
    let begun : 2 ≤ at = c.requires.begun in
    let here : at + i ≡ k = omega (arith, from) in
    let back : at - 1 + i ≡ k - 1 = omega (arith, from, begun) in
    let more : at - 2 + i ≡ k - 2 = omega (arith, from, begun) in
    let b = get_or-chunk at _ bytes i 0 within ∙ ap (λ j. get_or bytes j 0) here in
    let z = get_or-chunk (at - 1) _ bytes i 0 within ∙ ap (λ j. get_or bytes j 0) back ∙ sym (behind 0 bytes k (omega (arith, from, begun))) in
    let y = get_or-chunk (at - 2) _ bytes i 0 within ∙ ap (λ j. get_or bytes j 0) more ∙ sym (behind_two 0 0 bytes k (omega (arith, from, begun))) in
    sym (λ j. is_fault (y j) (z j) (b j)) ∙ c.are_fine_after.ensures none i within
