use Rattle.std.proofs.Common.{◌≤◌, ℕ, List, length, sym, subst}
use Rattle.uca_io.proofs.WordLemmas.{length-skip}
use Rattle.uca_conform.proofs.TestWordLemmas.{next-bad, next-longer, next-none, next-said}
use Rattle.uca_conform.proofs.test_line.next_point.Goals as goal

pub returns-then-not-ends_word-clause-bad : goal.returns-then-not-ends_word-clause-bad
returns-then-not-ends_word-clause-bad c =
    let read = c.read_digits-digits in
    next-longer c.args.line.now c.skip_blanks.result.now read.result.rest.now read.result.value read.result.len c.skip_blanks.ensures read.ensures (sym c.if-not-ends_word.ensures)

pub returns-then-digits-eq0-clause-next : goal.returns-then-digits-eq0-clause-next
returns-then-digits-eq0-clause-next c =
    let read = c.read_digits-digits in
    next-none c.args.line.now c.skip_blanks.result.now read.result.rest.now read.result.value read.result.len c.skip_blanks.ensures read.ensures (sym c.if-not-ends_word.ensures) c.if-digits-eq0.true

pub returns-in-Some-clause-next : goal.returns-in-Some-clause-next
returns-in-Some-clause-next c =
    let read = c.read_digits-digits in
    let line : List ℕ = c.args.line.now in
    next-said line c.skip_blanks.result.now read.result.rest.now read.result.value read.result.len c.skip_blanks.ensures read.ensures c.in-Some.point (sym c.if-not-ends_word.ensures) c.if-digits-eq0.false c.in-Some.ensures.long
    (subst (λ (xs : List ℕ). length xs ≤ length line) (sym c.skip_blanks.ensures) (length-skip line)) (c.in-Some.ensures.value read.ensures.word read.ensures.digits)

pub returns-in-None-clause-bad : goal.returns-in-None-clause-bad
returns-in-None-clause-bad c =
    let read = c.read_digits-digits in
    next-bad c.args.line.now c.skip_blanks.result.now read.result.rest.now read.result.value read.result.len c.skip_blanks.ensures read.ensures (sym c.if-not-ends_word.ensures) c.if-digits-eq0.false
    (c.in-None.ensures.value read.ensures.word read.ensures.digits)
