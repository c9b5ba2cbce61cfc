use Rattle.std.proofs.Common.{length}
use denote.Text.{Utf8}
use denote.Shadow.{shadow}
use Rattle.uca_window.specs.Scan.{IsPassedTo}
use Rattle.uca_window.proofs.passage.scan.Given as goal

abbrev pub invariant-passed : goal.invariant-passed
invariant-passed l = shadow (Utf8 l.rest) × IsPassedTo l.text l.rest l.last

abbrev pub decreases-passed : goal.decreases-passed
decreases-passed l = length l.rest
