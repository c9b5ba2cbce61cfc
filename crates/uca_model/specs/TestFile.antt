-- Test files like the Unicode Consortium's CollationTest files: how a table sorts their lines, each of which
-- should not be below the one before it.
use Rattle.std.specs.Prelude.{ℕ, ◌-◌, Bool, false, not, ◌&&◌, ◌||◌, ◌==◌, nat_le, List, [], ◌∷◌, ◌++◌, length, filter, Option, Some, None, option_and_then, Result, Ok, codes, if◌then◌else◌}
use Rattle.std.specs.Fmt.{decimal}
use Rattle.std.specs.List.{before_first, list_all}
use Rattle.std.specs.Option.{ok_or}
use Rattle.std.specs.Ordering.{is_gt}
use lib.Utf8.{scalar}
use Rattle.uca_io.specs.LineFold.{Fold, FaultAt, End, map_ok, with_text}
pub use Rattle.uca_io.specs.LineFold.{ends, stops}
use Rattle.uca_weights.specs.declared.settings.Settings.{Settings}
use Rattle.uca_model.specs.Lines.{line_feed, without_return}
use Rattle.uca_model.specs.SafeText.{is_safe}
use Rattle.uca_model.specs.SortKey.{key_order, sort_key}
use Rattle.uca_model.specs.Table.{ElementTable}
use Rattle.uca_model.specs.TableText.{◌>>=◌, is_four_to_six, number, number_sign, semicolon, skip_blanks, words}

-- why a test file is refused
pub data TestCause : Type 0 where
  line_too_long : TestCause
  bad_line : TestCause
  too_large : TestCause
  read : TestCause

-- a test line: which of all lines of the file it is, counted from 1, and its code points, surrogates among them
pub record TestLine : Type 0 where
  pub number : ℕ
  pub points : List ℕ

-- Lines

-- a code point as it is, also a surrogate
abbrev pub only_point : ℕ → Option ℕ
only_point c = if nat_le c 0x10FFFF then Some c else None

-- the code point that four to six hexadecimal digits spell
unfoldable pub test_point : List ℕ → Option ℕ
test_point digits = if is_four_to_six (length digits) then option_and_then only_point (number digits) else None

-- the code points that some words say, each of which has to be one
abbrev pub points_after : List ℕ → List (List ℕ) → Option (List ℕ)
points_after points [] = Some points
points_after points (word ∷ more) = option_and_then (λ c. points_after (points ++ c ∷ []) more) (test_point word)

-- there has to be at least one code point
abbrev pub some_points : List ℕ → Option (List ℕ)
some_points points = if length points == 0 then None else Some points

abbrev pub ends_points : ℕ → Bool
ends_points b = b == semicolon || b == number_sign

-- the code points of a test line come before its first `;` or `#`; what follows is ignored
unfoldable pub points_of : List ℕ → Result (List ℕ) TestCause
points_of line = ok_or (option_and_then some_points (points_after [] (words (before_first ends_points line)))) bad_line

-- a line whose first byte but for blanks is `#`, or that has none, is no test line
abbrev pub is_test : List ℕ → Bool
is_test [] = false
is_test (b ∷ bytes) = not (b == number_sign)

-- the test line that the line of this number is, if it is one
unfoldable pub tests_of_line : ℕ → List ℕ → Result (List TestLine) TestCause
tests_of_line n line =
    if is_test (skip_blanks (without_return line)) then (do
      points ← points_of (without_return line)
      Ok (record { number = n; points = points } ∷ []))
    else Ok []

-- some test lines, and those of the line of a number
abbrev pub add_tests : ℕ → List TestLine → List ℕ → Result (List TestLine) TestCause
add_tests n tests line = map_ok (λ more. tests ++ more) (tests_of_line n line)

-- what each line adds, and the causes of a file that cannot be read
abbrev pub tests_fold : Fold (List TestLine) TestCause
tests_fold = record { step = add_tests; long = line_too_long; large = too_large; failed = read }

-- all test lines of a file, or its first fault in the order of its bytes
abbrev pub test_lines : End TestCause → List ℕ → Result (List TestLine) (FaultAt TestCause)
test_lines end bytes = with_text tests_fold [] end bytes

-- Report

-- a test line is checked if it is a safe text; one with a surrogate is none
abbrev pub is_checked : TestLine → Bool
is_checked test = list_all scalar test.points && is_safe test.points

-- the number of the first of some test lines that is below the one before it
abbrev pub first_below : ElementTable → Settings → TestLine → List TestLine → Option ℕ
first_below t s before [] = None
first_below t s before (test ∷ more) =
    if is_gt (key_order (sort_key t s before.points) (sort_key t s test.points)) then Some test.number else first_below t s test more

abbrev pub first_failure : ElementTable → Settings → List TestLine → Option ℕ
first_failure t s [] = None
first_failure t s (first ∷ more) = first_below t s first more

-- how many test lines there are, how many of them were not checked, and the number of the first line that fails
pub record Report : Type 0 where
  pub lines : ℕ
  pub skipped : ℕ
  pub first_failure : Option ℕ

abbrev pub report : ElementTable → Settings → List TestLine → Report
report t s tests = record {
  lines = length tests;
  skipped = length tests - length (filter is_checked tests);
  first_failure = first_failure t s (filter is_checked tests);
}

-- the report on a file by a table, or the file's first fault
abbrev pub report_of : ElementTable → Settings → End TestCause → List ℕ → Result Report (FaultAt TestCause)
report_of t s end bytes = map_ok (report t s) (test_lines end bytes)

-- `check`

abbrev pub failure_text : Option ℕ → List ℕ
failure_text None = codes "none"
failure_text (Some n) = decimal n

-- the three numbers, each as a line
abbrev pub report_text : Report → List ℕ
report_text r =
    codes "lines " ++ decimal r.lines ++ line_feed ∷ codes "skipped " ++ decimal r.skipped ++ line_feed ∷ codes "first failure " ++ failure_text r.first_failure ++ line_feed ∷ []
