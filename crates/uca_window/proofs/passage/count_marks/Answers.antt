use Rattle.std.proofs.Common.{◌≡◌, ◌++◌, true, false, refl, sym, ap, ◌∙◌, arith, encode_utf8, length, length-append}
use Rattle.std.specs.Str.Iter.{chars_rest}
use Rattle.uca_window.specs.Scan.{Fits}
use Rattle.uca_window.proofs.RunScan.{scanned_step, passed_next, not_safe, long_run_at, all_safe}
use Rattle.uca_window.proofs.passage.count_marks.Goals as goal
use Rattle.std.proofs.lemmas.Grind.{common_steps}

pub returns-in_default-clause-end : goal.returns-in_default-clause-end
returns-in_default-clause-end c =
    let none : length c.marks.rest.now ≡ 0 = ap length (sym c.chars-characters.ensures.rest) ∙ c.in_default.ensures.steps.0.0 in
    all_safe c.args.text.now c.marks.rest.now c.marks.run c.marks.invariant.1 c.utf8.text none

pub returns-then-is_passed-clause-passed : goal.returns-then-is_passed-clause-passed
returns-then-is_passed-clause-passed c = grind (arith, common_steps, encode_utf8, passed_next)

pub returns-in_default-run_after_char-clause-refused : goal.returns-in_default-run_after_char-clause-refused
returns-in_default-run_after_char-clause-refused c =
    let is : c.marks.rest.now ≡ encode_utf8 c.in-Some.c ++ chars_rest c.next.new.self = sym c.chars-characters.ensures.rest ∙ c.in-Some.ensures.steps.0 in
    let unfit : ¬ (Fits c.marks.run c.in-Some.c) = λ f. let e : false ≡ true = c.in_default-run_after_char.ensures.fits.1 f in cc in
    not_safe c.args.text.now c.marks.rest.now _ c.marks.run c.in-Some.c c.marks.invariant.1 c.utf8.text is unfit

pub returns-in_default-run_after_char-clause-long : goal.returns-in_default-run_after_char-clause-long
returns-in_default-run_after_char-clause-long c =
    let is : c.marks.rest.now ≡ encode_utf8 c.in-Some.c ++ chars_rest c.next.new.self = sym c.chars-characters.ensures.rest ∙ c.in-Some.ensures.steps.0 in
    let unfit : ¬ (Fits c.marks.run c.in-Some.c) = λ f. let e : false ≡ true = c.in_default-run_after_char.ensures.fits.1 f in cc in
    long_run_at c.args.text.now c.marks.rest.now _ c.marks.run c.in-Some.c _ c.marks.invariant.1 c.utf8.text refl is unfit

pub marks-preserved : goal.marks-preserved
marks-preserved c = grind (arith, common_steps, encode_utf8, scanned_step, length-append)
