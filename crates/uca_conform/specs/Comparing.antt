-- The result of the test lines of a file so far.
use Rattle.std.specs.Prelude.{ℕ, ◌+◌, Bool, false, ◌&&◌, List, [], ◌∷◌, Option, Some, None, Result, if◌then◌else◌}
use Rattle.std.specs.List.{list_all}
use Rattle.std.specs.Ordering.{is_gt}
use lib.Utf8.{scalar}
use Rattle.uca_io.specs.LineFold.{Fold, map_ok}
use Rattle.uca_weights.specs.declared.settings.Settings.{Settings}
use Rattle.uca_model.specs.SafeText.{is_safe}
use Rattle.uca_model.specs.SortKey.{key_order, sort_key}
use Rattle.uca_model.specs.Table.{ElementTable}
use Rattle.uca_model.specs.TestFile.{Report, TestCause, TestLine, is_checked, line_too_long, read, tests_of_line, too_large}

-- what test lines amount to: their report, and the text that was compared last
pub record Compared : Type 0 where
  pub report : Report
  pub last : Option (List ℕ)

abbrev pub none_compared : Compared
none_compared = record { report = record { lines = 0; skipped = 0; first_failure = None }; last = None }

-- whether code points are a safe text, which is compared
abbrev pub can_compare : List ℕ → Bool
can_compare points = list_all scalar points && is_safe points

-- whether a text is below the one compared before it
abbrev pub is_below : ElementTable → Settings → Option (List ℕ) → List ℕ → Bool
is_below t s None text = false
is_below t s (Some before) text = is_gt (key_order (sort_key t s before) (sort_key t s text))

-- the first line that fails, where a line is below or not
abbrev pub failure_with : Option ℕ → Bool → ℕ → Option ℕ
failure_with (Some first) below n = Some first
failure_with None below n = if below then Some n else None

-- with a test line that is compared
abbrev pub with_text : ElementTable → Settings → ℕ → Compared → List ℕ → Compared
with_text t s n sum text = record {
  report = record { lines = sum.report.lines + 1; skipped = sum.report.skipped; first_failure = failure_with sum.report.first_failure (is_below t s sum.last text) n };
  last = Some text;
}

-- with a test line that is not compared
abbrev pub with_skipped : Compared → Compared
with_skipped sum = record {
  report = record { lines = sum.report.lines + 1; skipped = sum.report.skipped + 1; first_failure = sum.report.first_failure };
  last = sum.last;
}

abbrev pub with_test : ElementTable → Settings → Compared → TestLine → Compared
with_test t s sum test = if is_checked test then with_text t s test.number sum test.points else with_skipped sum

abbrev pub with_tests : ElementTable → Settings → Compared → List TestLine → Compared
with_tests t s sum [] = sum
with_tests t s sum (test ∷ more) = with_tests t s (with_test t s sum test) more

-- with the line of a number
abbrev pub with_line : ElementTable → Settings → ℕ → Compared → List ℕ → Result Compared TestCause
with_line t s n sum line = map_ok (with_tests t s sum) (tests_of_line n line)

-- the table and the settings by which test lines are compared, and what the lines so far amount to
pub record Comparing : Type 0 where
  pub table : ElementTable
  pub settings : Settings
  pub sum : Compared

-- with some test lines
abbrev pub comparing : ElementTable → Settings → List TestLine → Comparing
comparing t s tests = record { table = t; settings = s; sum = with_tests t s none_compared tests }

-- with the line of a number
abbrev pub compare_line : ℕ → Comparing → List ℕ → Result Comparing TestCause
compare_line n c line = map_ok (λ sum. record { table = c.table; settings = c.settings; sum = sum }) (with_line c.table c.settings n c.sum line)

-- what each line adds, and the causes of a file that cannot be read
abbrev pub comparing_fold : Fold Comparing TestCause
comparing_fold = record { step = compare_line; long = line_too_long; large = too_large; failed = read }
