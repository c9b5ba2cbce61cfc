use Rattle.std.proofs.Common.{◌≤◌, length}
use denote.Text.{Utf8}
use denote.Shadow.{shadow}
use Rattle.uca_window.specs.Scan.{ScannedTo}
use Rattle.uca_window.proofs.passage.count_marks.Given as goal

abbrev pub invariant-marks : goal.invariant-marks
invariant-marks l = shadow (Utf8 l.rest) × ScannedTo l.text l.rest l.run × (length l.rest ≤ length l.from)

abbrev pub decreases-marks : goal.decreases-marks
decreases-marks l = length l.rest
