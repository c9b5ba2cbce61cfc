use Rattle.std.proofs.Common.{◌≡◌, ◌+◌, ◌-◌, ◌<◌, length, get_or, sym, ap, ◌∙◌, arith}
use Rattle.std.proofs.lemmas.Bool.{and_parts}
use Rattle.uca_window.specs.Utf8.{is_unpaired, ArePaired}
use Rattle.uca_window.proofs.Utf8Lanes.{joined, short_utf8}
use Rattle.uca_window.proofs.utf8.few_are_paired.Goals as goal

pub returns : goal.returns
returns c = λ told.
    let bytes = c.args.bytes.now in
    let last = length bytes - 8 in
    let some : 8 < length bytes = c.requires.some in
    let parts = and_parts c.are_ends_paired.result c.are_paired_after.result told in
    let unpaired = c.are_paired_after.ensures parts.1 in
    let front : ArePaired 1 9 bytes = λ k from to.
    let i = k - 1 in
    let near : i < 8 = omega (arith, from, to) in
    let here : 1 + i ≡ k = omega (arith, from) in
    let back : 0 + i ≡ k - 1 = omega arith in
    let b = c.two_blocks-block.ensures.front i near ∙ ap (λ j. get_or bytes j 0) here in
    let z = c.two_blocks-before.ensures.front i near ∙ ap (λ j. get_or bytes j 0) back in
    sym (λ j. is_unpaired (z j) (b j)) ∙ unpaired i (omega (arith, near)) in
    let rear : ArePaired last (last + 8) bytes = λ k from to.
    let i = k - last in
    let near : i < 8 = omega (arith, from, to) in
    let here : last + i ≡ k = omega (arith, from) in
    let back : last - 1 + i ≡ k - 1 = omega (arith, from, some) in
    let b = c.two_blocks-block.ensures.back i near ∙ ap (λ j. get_or bytes j 0) here in
    let z = c.two_blocks-before.ensures.back i near ∙ ap (λ j. get_or bytes j 0) back in
    sym (λ j. is_unpaired (z j) (b j)) ∙ unpaired (8 + i) (omega (arith, near)) in
    short_utf8 bytes (omega (arith, some)) (λ k from to. joined _ 1 9 last (last + 8) (omega (arith, c.requires.few)) front rear k from (omega (arith, some, to))) (c.are_ends_paired.ensures parts.0)
