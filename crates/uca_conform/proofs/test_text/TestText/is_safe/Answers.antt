use Rattle.std.proofs.Common.{◌≡◌, chars, refl, sym, ap, subst, arith}
use Rattle.uca_model.specs.SafeText.{IsSafe}
use Rattle.uca_conform.specs.TestReading.{text_in}
use Rattle.uca_conform.proofs.TestLineLemmas.{bytes-safe, is_safe-from, is_safe-not}
use Rattle.uca_conform.proofs.test_text.TestText.is_safe.Goals as goal

pub returns-then-text-le-SHORT : goal.returns-then-text-le-SHORT
returns-then-text-le-SHORT c =
    let same : chars c.as_str-text.result.now ≡ text_in c.args.self.now = ap chars c.as_str-text.ensures.value in
    sym (is_safe-from (text_in c.args.self.now) (subst IsSafe same (bytes-safe c.as_str-text.result.now c.as_str-text.utf8 (omega (arith, c.if-text-le-SHORT.true)))))

pub returns-in-Ok : goal.returns-in-Ok
returns-in-Ok c =
    let same : chars c.as_str-text.result.now ≡ text_in c.args.self.now = ap chars c.as_str-text.ensures.value in
    sym (is_safe-from (text_in c.args.self.now) (subst IsSafe same (c.in-Ok.ensures.safe.0 refl)))

pub returns-in-Err : goal.returns-in-Err
returns-in-Err c =
    let same : chars c.as_str-text.result.now ≡ text_in c.args.self.now = ap chars c.as_str-text.ensures.value in
    sym (is_safe-not (text_in c.args.self.now) (λ safe. cc (c.in-Err.ensures.safe.1 (subst IsSafe (sym same) safe))))
