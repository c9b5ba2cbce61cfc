use Rattle.std.proofs.Common.{◌++◌, ◌-◌, arith, refl, sym, ap, ◌∙◌, encode_utf8}
use Rattle.uca_window.proofs.RunScan.{skips_at}
use Rattle.uca_window.proofs.passing.skip.Goals as goal

pub returns-then-is_passed : goal.returns-then-is_passed
returns-then-is_passed c =
    let edge = c.if-is_char_boundary.ensures.test.0 refl in
    let first = sym c.chars-characters.ensures.rest ∙ c.in-Some.ensures.steps.0 ∙ ap (λ bs. encode_utf8 c.in-Some.c ++ bs) (sym c.as_str.ensures) in
    skips_at c.args.text.now c.split_at.result.1.now c.as_str.result.now c.in-Some.c (c.loop-at.at - 1) c.utf8.text edge edge.0 c.split_at.ensures.back first
    (omega (arith, c.loop-at.auto.at, c.loop-at-test.true, c.min-at.ensures)) (sym c.is_passed.ensures ∙ c.if-is_passed.true)
