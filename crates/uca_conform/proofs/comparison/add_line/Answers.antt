use Rattle.std.proofs.Common.{ℕ, ◌+◌, List, length, ap, arith, Bool, subst, sym, ◌∙◌}
use Rattle.std.specs.Prelude.{Ok}
use Rattle.uca_conform.specs.Comparing.{Compared, with_skipped, with_text}
use Rattle.uca_conform.specs.declared.conforming.Conformance.{Conformance}
use Rattle.uca_model.specs.TestFile.{points_of}
use Rattle.uca_conform.specs.TestReading.{next_of, state_of, test_cause, SaysPoints}
use Rattle.uca_conform.proofs.TestLineLemmas.{compared-text, length-without_return, line-compared, line-fault, line-other, line-skipped}
use Rattle.uca_conform.proofs.comparison.add_line.Goals as goal

pub returns-then-not-is_test-clause-adds : goal.returns-then-not-is_test-clause-adds
returns-then-not-is_test-clause-adds c =
    line-other c.args.t.now c.args.s c.args.number (state_of c.args.comparison.now) c.args.line.now c.without_return-line.result.now c.without_return-line.ensures c.if-not-is_test.ensures

pub read_next-requires : goal.read_next-requires
read_next-requires c = omega (arith, c.requires.short, ap (length {A = ℕ}) c.without_return-line.ensures, length-without_return c.args.line.now)

pub add_text-requires-clause-next : goal.add_text-requires-clause-next
add_text-requires-clause-next c = compared-text _ c.in-Ok.is_compared (next_of c.read_next.new.comparison) c.in-Ok.ensures.points c.if-is_compared.true

pub returns-then-is_compared-clause-adds : goal.returns-then-is_compared-clause-adds
returns-then-is_compared-clause-adds c =
    let text : List ℕ = c.without_return-line.result.now in
    line-compared c.args.t.now c.args.s c.args.number (state_of c.args.comparison.now) c.args.line.now text (next_of c.read_next.new.comparison) c.without_return-line.ensures c.if-not-is_test.ensures
    (subst (λ (b : Bool). SaysPoints (points_of text) b (next_of c.read_next.new.comparison)) c.if-is_compared.true c.in-Ok.ensures.points)
    ∙ ap (λ sum. Ok (with_text c.args.t.now c.args.s c.args.number sum (next_of c.read_next.new.comparison))) (sym c.in-Ok.ensures.state) ∙ ap Ok (sym c.add_text.ensures.sum)

pub returns-else-is_compared-clause-adds : goal.returns-else-is_compared-clause-adds
returns-else-is_compared-clause-adds c =
    let text : List ℕ = c.without_return-line.result.now in
    line-skipped c.args.t.now c.args.s c.args.number (state_of c.args.comparison.now) c.args.line.now text (next_of c.read_next.new.comparison) c.without_return-line.ensures c.if-not-is_test.ensures
    (subst (λ (b : Bool). SaysPoints (points_of text) b (next_of c.read_next.new.comparison)) c.if-is_compared.false c.in-Ok.ensures.points)
    ∙ ap (λ sum. Ok (with_skipped sum)) (sym c.in-Ok.ensures.state) ∙ ap Ok (sym c.add_skipped.ensures.sum)

pub returns-in-Err-clause-adds : goal.returns-in-Err-clause-adds
returns-in-Err-clause-adds c =
    line-fault c.args.t.now c.args.s c.args.number (state_of c.args.comparison.now) c.args.line.now c.without_return-line.result.now (test_cause c.in-Err.cause) c.without_return-line.ensures c.if-not-is_test.ensures c.in-Err.ensures.fault

pub add_text-requires-clause-last : goal.add_text-requires-clause-last
add_text-requires-clause-last c = c.in-Ok.ensures.last c.requires.counted.last

pub returns-else-is_compared-clause-counted : goal.returns-else-is_compared-clause-counted
returns-else-is_compared-clause-counted c =
    let before = c.requires.counted in
    let sum = c.add_skipped.ensures.sum in
    let lines = ap (λ (s : Compared). s.report.lines) sum ∙ ap (λ (r : Conformance). r.lines + 1) c.in-Ok.ensures.report in
    let skipped = ap (λ (s : Compared). s.report.skipped) sum ∙ ap (λ (r : Conformance). r.skipped + 1) c.in-Ok.ensures.report in
    record {
      lines = omega (arith, lines, before.lines);
      skipped = omega (arith, lines, skipped, before.skipped);
      last = c.add_skipped.ensures.last (c.in-Ok.ensures.last before.last);
    }

pub returns-in-Err-clause-counted : goal.returns-in-Err-clause-counted
returns-in-Err-clause-counted c =
    let before = c.requires.counted in
    let lines = ap (λ (r : Conformance). r.lines) c.in-Err.ensures.report in
    let skipped = ap (λ (r : Conformance). r.skipped) c.in-Err.ensures.report in
    record {
      lines = omega (arith, lines, before.lines);
      skipped = omega (arith, lines, skipped, before.skipped);
      last = c.in-Err.ensures.last before.last;
    }
