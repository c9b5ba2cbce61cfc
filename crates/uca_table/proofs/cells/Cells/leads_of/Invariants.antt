use Rattle.uca_table.proofs.Common.{HoldsLeads}
use Rattle.uca_table.proofs.cells.Cells.leads_of.Given as goal

abbrev pub invariant-loop-point : goal.invariant-loop-point
invariant-loop-point l = HoldsLeads l.t l.leads.items
