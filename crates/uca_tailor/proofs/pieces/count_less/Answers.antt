use Rattle.std.proofs.Common.{◌≡◌, ◌+◌, ◌==◌, refl, sym, ◌∙◌, arith}
use Rattle.uca_model.specs.RuleText.{less_than, less_run}
use Rattle.uca_tailor.proofs.PieceLemmas.{take_next, run_goes_on, run_longer}
use Rattle.uca_tailor.proofs.pieces.count_less.Goals as goal

pub loop-scanner-preserved : goal.loop-scanner-preserved
loop-scanner-preserved c =
    let taken = take_next c.loop-scanner.scanner c.next.new.self c.next.result less_than (sym c.is_next.ensures ∙ c.loop-scanner-test.true) c.next.ensures in
    let more : less_run c.loop-scanner.scanner.left ≡ less_run c.next.new.self.left + 1 = run_longer (λ x. x == less_than) c.loop-scanner.scanner c.next.new.self less_than taken.0 refl in
    record {
      count = omega (arith, c.one_more-count.ensures, c.loop-scanner.invariant.count, c.loop-scanner.invariant.few);
      few = omega (arith, c.one_more-count.ensures);
      scan = run_goes_on (λ x. x == less_than) c.loop-scanner.scanner c.next.new.self less_than taken.0 taken.1 refl ∙ c.loop-scanner.invariant.scan;
    }
