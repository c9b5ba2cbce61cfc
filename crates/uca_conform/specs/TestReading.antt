-- The lines of a test file, as they are read.
use Rattle.std.specs.Prelude.{◌≡◌, ℕ, ◌+◌, ◌<◌, ◌≤◌, Bool, true, not, ◌==◌, List, [], length, chars, encode_utf8_all, Option, Some, None, Result, Ok, if◌then◌else◌}
use Rattle.std.specs.List.{list_all}
use lib.Utf8.{scalar}
use Rattle.uca_model.specs.TestFile.{TestCause, bad_line, line_too_long, points_after, read, too_large}
use Rattle.uca_conform.specs.Comparing.{Compared, can_compare}
use Rattle.uca_conform.specs.Conforming.{report_in}
use Rattle.uca_conform.specs.TestWords.{said_words}
use Rattle.uca_conform.specs.declared.conforming.ConformCause.{ConformCause}
use Rattle.uca_conform.specs.declared.conforming.ConformCause.TheVariants.{LineTooLong, BadLine, TooLarge, Read}
use Rattle.uca_conform.specs.declared.comparison.Comparison.{Comparison}
use Rattle.uca_conform.specs.declared.test_text.TestText.{TestText}

-- Faults

abbrev pub test_cause : ConformCause → TestCause
test_cause LineTooLong = line_too_long
test_cause BadLine = bad_line
test_cause TooLarge = too_large
test_cause Read = read

-- the fault is not one of the reader
abbrev pub IsOfFile : ConformCause → Type 0
IsOfFile Read = ⊥
IsOfFile _ = Unit {0}

-- the fault of a line without a code point, or with a word that is not one
abbrev pub IsBadLine : ConformCause → Type 0
IsBadLine BadLine = Unit {0}
IsBadLine _ = ⊥

-- the same, for a reader of lines
abbrev pub fault_of : ConformCause → Option TestCause
fault_of cause = Some (test_cause cause)

-- Lines

-- the code points of a test line are known, and whether they are compared, and their text where they are
pub record SaysPoints (says : Result (List ℕ) TestCause) (is_compared : Bool) (text : List ℕ) : Type 0 where
  pub points : List ℕ
  pub known : says ≡ Ok points
  pub compared : can_compare points ≡ is_compared
  pub same : is_compared ≡ true → text ≡ points

-- the words before others spelled some code points, of which these bytes are the text if they are scalar values
pub record HasPoints (line rest bytes : List ℕ) (is_some is_text : Bool) : Type 0 where
  pub points : List ℕ
  pub same : points_after [] (said_words line) ≡ points_after points (said_words rest)
  pub some : is_some ≡ not (length points == 0)
  pub scalars : is_text ≡ list_all scalar points
  pub kept : is_text ≡ true → bytes ≡ encode_utf8_all points
  pub fits : length bytes + length rest ≤ length line

-- The lines so far

-- the text of a test line
abbrev pub text_in : TestText → List ℕ
text_in x = chars x.text.bytes

-- the last text that was compared, and the one that is read next
abbrev pub last_of : Comparison → List ℕ
last_of c = if c.is_one then text_in c.one else text_in c.other

abbrev pub next_of : Comparison → List ℕ
next_of c = if c.is_one then text_in c.other else text_in c.one

-- the text that was compared last, if there is one
abbrev pub last_text : Comparison → Option (List ℕ)
last_text c = if c.is_some then Some (last_of c) else None

-- what the test lines so far amount to
abbrev pub state_of : Comparison → Compared
state_of c = record { report = report_in c.report; last = last_text c }

-- the text that was compared last is safe, if there is one
abbrev pub CanCompareLast : Comparison → Type 0
CanCompareLast c = c.is_some ≡ true → can_compare (last_of c) ≡ true

-- no more lines were counted than there are before this one
pub record IsCounted (c : Comparison) (n : ℕ) : Type 0 where
  pub lines : c.report.lines < n
  pub skipped : c.report.skipped ≤ c.report.lines
  pub last : CanCompareLast c
