-- What the exports report that show why texts are in their order.
use Rattle.std.specs.Prelude.{ℕ, ℤ, Result, Ok, Err}
use Rattle.uca_handle.specs.declared.faults.CompareFault.{CompareFault}
use Rattle.uca_handle.specs.declared.faults.CompareFault.TheVariants as compare
use Rattle.uca_handle.specs.declared.faults.KeyFault.{KeyFault}
use Rattle.uca_handle.specs.declared.faults.KeyFault.TheVariants as key
use Rattle.uca_handle.specs.declared.levels.Decision.{Decision}
use Rattle.uca_handle.specs.declared.matches.MatchesSize.{MatchesSize}
use Rattle.uca_c.specs.Reports.{order_number, plain, text_report}
use Rattle.uca_c.specs.declared.looks.MatchesNeeded.{MatchesNeeded}
use Rattle.uca_c.specs.declared.numbers.TheConstants.{OK, CLOSED, NO_MEMORY}
use Rattle.uca_c.specs.declared.reports.Report.{Report}

abbrev pub levels_report : Result Decision CompareFault → Report
levels_report (Ok _) = plain OK
levels_report (Err compare.Closed) = plain CLOSED
levels_report (Err (compare.First f)) = text_report 1 f
levels_report (Err (compare.Second f)) = text_report 2 f

abbrev pub matches_report : Result MatchesSize KeyFault → Report
matches_report (Ok _) = plain OK
matches_report (Err key.Closed) = plain CLOSED
matches_report (Err (key.Text f)) = text_report 1 f
matches_report (Err key.OutOfMemory) = plain NO_MEMORY

-- what a result is written to holds after the call
abbrev pub decided_order_after : ℤ → Result Decision CompareFault → ℤ
decided_order_after before (Ok d) = order_number d.order
decided_order_after before (Err _) = before

abbrev pub level_after : ℕ → Result Decision CompareFault → ℕ
level_after before (Ok d) = d.level
level_after before (Err _) = before

abbrev pub needed_after : MatchesNeeded → Result MatchesSize KeyFault → MatchesNeeded
needed_after before (Ok size) = record { matches = size.matches; points = size.points; elements = size.elements }
needed_after before (Err _) = before
