-- What test lines amount to when they are taken one by one: the report of all of them.
use Rattle.std.proofs.Common.{◌≡◌, ℕ, ◌+◌, true, false, List, [], ◌∷◌, ◌++◌, length, filter, Option, Some, None, refl, sym, ap, ap₂, ◌∙◌, arith, inl, inr, if◌then◌else◌}
use Rattle.std.proofs.lemmas.Bool.{cond-true, cond-false, cases_Bool}
use Rattle.std.specs.Ordering.{is_gt}
use Rattle.std.specs.Prelude.{Result, Ok, Err}
use Rattle.uca_io.specs.LineFold.{End, FaultAt, KeepsSteps, map_ok, with_text as with_lines_of}
use Rattle.uca_io.proofs.MapLemmas.{text-mapped}
use Rattle.uca_weights.specs.declared.settings.Settings.{Settings}
use Rattle.uca_model.specs.SortKey.{key_order, sort_key}
use Rattle.uca_model.specs.Table.{ElementTable}
use Rattle.uca_model.specs.TestFile.{Report, TestCause, TestLine, first_below, first_failure, is_checked, report, report_of, test_lines, tests_fold, tests_of_line}
use Rattle.uca_conform.specs.Comparing.{Compared, Comparing, comparing, comparing_fold, failure_with, is_below, none_compared, with_skipped, with_test, with_tests, with_text}

compared : (t : ElementTable) (s : Settings) (sum : Compared) (test : TestLine) → is_checked test ≡ true → with_test t s sum test ≡ with_text t s test.number sum test.points
compared t s sum test is = cond-true _ _ _ is

skipped : (t : ElementTable) (s : Settings) (sum : Compared) (test : TestLine) → is_checked test ≡ false → with_test t s sum test ≡ with_skipped sum
skipped t s sum test is = cond-false _ _ _ is

kept : (test : TestLine) (more : List TestLine) → is_checked test ≡ true → filter is_checked (test ∷ more) ≡ test ∷ filter is_checked more
kept test more is = cond-true _ _ _ is

left_out : (test : TestLine) (more : List TestLine) → is_checked test ≡ false → filter is_checked (test ∷ more) ≡ filter is_checked more
left_out test more is = cond-false _ _ _ is

-- how many test lines there are
counts_lines : (t : ElementTable) (s : Settings) (sum : Compared) (tests : List TestLine) → (with_tests t s sum tests).report.lines ≡ sum.report.lines + length tests
counts_lines t s sum [] = omega arith
counts_lines t s sum (test ∷ more) =
    let later : (with_tests t s (with_test t s sum test) more).report.lines ≡ (with_test t s sum test).report.lines + length more = counts_lines t s (with_test t s sum test) more in
    elim (cases_Bool (is_checked test)) [
      | inl e ↦ let one : (with_test t s sum test).report.lines ≡ sum.report.lines + 1 = ap (λ (c : Compared). c.report.lines) (compared t s sum test e) in omega (arith, later, one)
      | inr e ↦ let one : (with_test t s sum test).report.lines ≡ sum.report.lines + 1 = ap (λ (c : Compared). c.report.lines) (skipped t s sum test e) in omega (arith, later, one)
    ]

-- how many of them were not compared
counts_skipped : (t : ElementTable) (s : Settings) (sum : Compared) (tests : List TestLine) → (with_tests t s sum tests).report.skipped + length (filter is_checked tests) ≡ sum.report.skipped + length tests
counts_skipped t s sum [] = omega arith
counts_skipped t s sum (test ∷ more) =
    let later : (with_tests t s (with_test t s sum test) more).report.skipped + length (filter is_checked more) ≡ (with_test t s sum test).report.skipped + length more = counts_skipped t s (with_test t s sum test) more in
    elim (cases_Bool (is_checked test)) [
      | inl e ↦
          let one : (with_test t s sum test).report.skipped ≡ sum.report.skipped = ap (λ (c : Compared). c.report.skipped) (compared t s sum test e) in
          let count : length (filter is_checked (test ∷ more)) ≡ length (filter is_checked more) + 1 = ap (length {A = TestLine}) (kept test more e) ∙ omega arith in
          omega (arith, later, one, count)
      | inr e ↦
          let one : (with_test t s sum test).report.skipped ≡ sum.report.skipped + 1 = ap (λ (c : Compared). c.report.skipped) (skipped t s sum test e) in
          let count : length (filter is_checked (test ∷ more)) ≡ length (filter is_checked more) = ap (length {A = TestLine}) (left_out test more e) in
          omega (arith, later, one, count)
    ]

-- the first failure
abbrev failure : Compared → Option ℕ
failure sum = sum.report.first_failure

-- after a first failure there is no other one
keeps_failure : (t : ElementTable) (s : Settings) (sum : Compared) (n : ℕ) (tests : List TestLine) → failure sum ≡ Some n → failure (with_tests t s sum tests) ≡ Some n
keeps_failure t s sum n [] is = is
keeps_failure t s sum n (test ∷ more) is =
    keeps_failure t s (with_test t s sum test) n more (elim (cases_Bool (is_checked test)) [
      | inl e ↦ ap failure (compared t s sum test e) ∙ ap (λ (o : Option ℕ). failure_with o (is_below t s sum.last test.points) test.number) is
      | inr e ↦ ap failure (skipped t s sum test e) ∙ is
    ])

-- the first test line that is below the one before it
fails_below : (t : ElementTable) (s : Settings) (sum : Compared) (before : TestLine) (tests : List TestLine) → sum.last ≡ Some before.points → failure sum ≡ None
    → failure (with_tests t s sum tests) ≡ first_below t s before (filter is_checked tests)
fails_below t s sum before [] last none = none
fails_below t s sum before (test ∷ more) last none =
    elim (cases_Bool (is_checked test)) [
      | inl e ↦
          let next : Compared = with_text t s test.number sum test.points in
          let same : failure (with_tests t s sum (test ∷ more)) ≡ failure (with_tests t s next more) = ap (λ (c : Compared). failure (with_tests t s c more)) (compared t s sum test e) in
          let wanted : first_below t s before (filter is_checked (test ∷ more)) ≡ first_below t s before (test ∷ filter is_checked more) = ap (first_below t s before) (kept test more e) in
          let here : failure next ≡ (if is_gt (key_order (sort_key t s before.points) (sort_key t s test.points)) then Some test.number else None) = ap₂ (λ (o : Option ℕ) (l : Option (List ℕ)). failure_with o (is_below t s l test.points) test.number) none last in
          elim (cases_Bool (is_gt (key_order (sort_key t s before.points) (sort_key t s test.points)))) [
            | inl below ↦ same ∙ keeps_failure t s next test.number more (here ∙ cond-true _ _ _ below) ∙ sym (wanted ∙ cond-true _ _ _ below)
            | inr above ↦ same ∙ fails_below t s next test more refl (here ∙ cond-false _ _ _ above) ∙ sym (wanted ∙ cond-false _ _ _ above)
          ]
      | inr e ↦
          ap (λ (c : Compared). failure (with_tests t s c more)) (skipped t s sum test e) ∙ fails_below t s (with_skipped sum) before more last none
          ∙ sym (ap (first_below t s before) (left_out test more e))
    ]

-- the same, where nothing was compared yet
fails_first : (t : ElementTable) (s : Settings) (sum : Compared) (tests : List TestLine) → sum.last ≡ None → failure sum ≡ None → failure (with_tests t s sum tests) ≡ first_failure t s (filter is_checked tests)
fails_first t s sum [] last none = none
fails_first t s sum (test ∷ more) last none =
    elim (cases_Bool (is_checked test)) [
      | inl e ↦
          let next : Compared = with_text t s test.number sum test.points in
          let here : failure next ≡ None = ap₂ (λ (o : Option ℕ) (l : Option (List ℕ)). failure_with o (is_below t s l test.points) test.number) none last in
          ap (λ (c : Compared). failure (with_tests t s c more)) (compared t s sum test e) ∙ fails_below t s next test more refl here
          ∙ sym (ap (first_failure t s) (kept test more e))
      | inr e ↦
          ap (λ (c : Compared). failure (with_tests t s c more)) (skipped t s sum test e) ∙ fails_first t s (with_skipped sum) more last none
          ∙ sym (ap (first_failure t s) (left_out test more e))
    ]

same_report : (a b : Report) → a.lines ≡ b.lines → a.skipped ≡ b.skipped → a.first_failure ≡ b.first_failure → a ≡ b
same_report a b lines skipped first = λ i. record { lines = lines i; skipped = skipped i; first_failure = first i }

-- the report of test lines is that of what they amount to
pub report-with_tests : (t : ElementTable) (s : Settings) (tests : List TestLine) → report t s tests ≡ (with_tests t s none_compared tests).report
report-with_tests t s tests =
    same_report (report t s tests) (with_tests t s none_compared tests).report
    (omega (arith, counts_lines t s none_compared tests))
    (omega (arith, counts_skipped t s none_compared tests))
    (sym (fails_first t s none_compared tests refl refl))

-- more test lines go on from what those before them amount to
with_tests-append : (t : ElementTable) (s : Settings) (sum : Compared) (tests more : List TestLine) → with_tests t s sum (tests ++ more) ≡ with_tests t s (with_tests t s sum tests) more
with_tests-append t s sum [] more = refl
with_tests-append t s sum (test ∷ tests) more = with_tests-append t s (with_test t s sum test) tests more

-- the lines of a file give the same, each compared at once or all test lines collected
comparing-keeps : (t : ElementTable) (s : Settings) → KeepsSteps (comparing t s) tests_fold comparing_fold
comparing-keeps t s = record {
  step = λ n tests line. by_line n tests (tests_of_line n line);
  long = refl;
  large = refl;
}
  where
    by_line : (n : ℕ) (tests : List TestLine) (r : Result (List TestLine) TestCause)
        → map_ok (λ (sum : Compared). (let c : Comparing = record { table = t; settings = s; sum = sum } in c)) (map_ok (with_tests t s (with_tests t s none_compared tests)) r) ≡ map_ok (comparing t s) (map_ok (λ more. tests ++ more) r)
    by_line n tests (Err cause) = refl
    by_line n tests (Ok more) = ap (λ (sum : Compared). Ok (let c : Comparing = record { table = t; settings = s; sum = sum } in c)) (sym (with_tests-append t s none_compared tests more))

-- the report in what was compared
abbrev pub report_part : Comparing → Report
report_part c = c.sum.report

reported : (t : ElementTable) (s : Settings) (r : Result (List TestLine) (FaultAt TestCause)) → map_ok (report t s) r ≡ map_ok report_part (map_ok (comparing t s) r)
reported t s (Ok tests) = ap Ok (report-with_tests t s tests)
reported t s (Err fault) = refl

-- the report of a file is that of its lines, each compared at once
pub report_of-compared : (t : ElementTable) (s : Settings) (end : End TestCause) (bytes : List ℕ) → report_of t s end bytes ≡ map_ok report_part (with_lines_of comparing_fold (comparing t s []) end bytes)
report_of-compared t s end bytes =
    reported t s (test_lines end bytes) ∙ ap (map_ok report_part) (sym (text-mapped (comparing t s) tests_fold comparing_fold [] end bytes (comparing-keeps t s)))
