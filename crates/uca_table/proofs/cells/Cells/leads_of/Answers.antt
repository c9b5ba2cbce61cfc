use Rattle.uca_table.proofs.Common.{rules, arith, subst, ◌<◌, length, IsLeadWeight}
use Rattle.uca_table.proofs.CellLemmas.{leads-put}
use Rattle.uca_table.proofs.cells.Cells.leads_of.Goals as goal

pub loop-point-init : goal.loop-point-init
loop-point-init c = record { size = c.in_ok-leads.ensures.size; each = λ p some. absurd (omega (arith, some, c.in_ok-leads.ensures.each p)) }

pub loop-point-preserved : goal.loop-point-preserved
loop-point-preserved c =
    let inside : c.loop-point.point < length c.loop-point.leads.items = search rules in
    leads-put c.args.t.now c.loop-point.leads.items c.loop-point.point c.lead_weight.result inside c.loop-point.invariant (subst (λ t. 0 < c.lead_weight.result → IsLeadWeight t c.loop-point.point c.lead_weight.result) c.characters-known.ensures c.lead_weight.ensures)
